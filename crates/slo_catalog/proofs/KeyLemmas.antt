-- The order of kinds, and of objects by kind and name.
use Rattle.std.proofs.Common.{◌≡◌, ℕ, Bool, true, false, ◌&&◌, List, refl, sym, ap, ap₂, ◌∙◌}
use Rattle.std.proofs.Common.{true≢false, nat_cmp, is_eq, Ordering, Less, Equal, Greater, bytes_eq}
use Rattle.std.specs.Ordering.{ordering_then, ordering_reverse}
use Rattle.std.specs.Cmp.{IsTotalOrder, IsEquivalence}
use Rattle.std.specs.Cmp.Lexicographic.{slice_cmp}
use Rattle.std.proofs.lemmas.Cmp.{on_total, then_total, nat_list_cmp_total}
use Rattle.std.proofs.lemmas.Map.Text.{is_eq-slice_cmp}
use Rattle.std.proofs.lemmas.Slice.Eq.{bytes_eq-Decides}
use Rattle.object_terms.specs.declared.kind.Kind.{Kind}
use Rattle.object_terms.specs.declared.kind.Kind.TheVariants as kinds
use Rattle.object_terms.specs.declared.object.Object.{Object}
use Rattle.object_terms.specs.contracts.kind.KindEq.TheImpl.Laws.{laws-law}
use Rattle.object_terms.specs.contracts.kind.KindOrd.TheImpl.Laws.{total-law, matches_eq-law}
use Rattle.catalog_terms.specs.Keys.{is_kind, kind_cmp, is_key, key_cmp, object_cmp, ComesBefore}

-- the derived order of kinds is one, and says of two kinds that they are one where `==` does
pub kind_order : IsTotalOrder kind_cmp
kind_order = total-law

pub kind_equality : IsEquivalence is_kind
kind_equality = laws-law

equal_kinds : (k l : Kind) → is_kind k l ≡ is_eq (kind_cmp k l)
equal_kinds = matches_eq-law

same_kind : (k l : Kind) → is_kind k l ≡ true → k ≡ l
same_kind kinds.DataSource kinds.DataSource h = refl
same_kind kinds.Service kinds.Service h = refl
same_kind kinds.Sli kinds.Sli h = refl
same_kind kinds.Slo kinds.Slo h = refl
same_kind kinds.AlertPolicy kinds.AlertPolicy h = refl
same_kind kinds.AlertCondition kinds.AlertCondition h = refl
same_kind kinds.AlertNotificationTarget kinds.AlertNotificationTarget h = refl
same_kind _ _ h = cc h

pub object_order : IsTotalOrder object_cmp
object_order = then_total (on_total (λ o. o.kind) kind_order)
    (on_total (λ o. o.name) nat_list_cmp_total)

left : (a b : Bool) → a && b ≡ true → a ≡ true
left true b h = refl
left false b h = h

right : (a b : Bool) → a && b ≡ true → b ≡ true
right true b h = h
right false b h = absurd (true≢false (sym h))

-- the kind and name of an object that is of them
pub key_parts : (kind : Kind) (name : List ℕ) (o : Object) → is_key kind name o ≡ true
    → (o.kind ≡ kind) × (o.name ≡ name)
key_parts kind name o h = (
  same_kind o.kind kind (left (is_kind o.kind kind) (bytes_eq o.name name) h),
  (bytes_eq-Decides o.name name).0 (right (is_kind o.kind kind) (bytes_eq o.name name) h),
)

-- an object is of its own kind and name
pub key_itself : (o : Object) → is_key o.kind o.name o ≡ true
key_itself o = ap₂ (λ a b. a && b) (kind_equality.refl o.kind)
    ((bytes_eq-Decides o.name o.name).1 refl)

equal_then : (r s : Ordering) → is_eq (ordering_then r s) ≡ is_eq r && is_eq s
equal_then Less s = refl
equal_then Equal s = refl
equal_then Greater s = refl

-- an object is of a kind and name where it comes neither before nor behind them
pub same_as : (o : Object) (kind : Kind) (name : List ℕ)
    → is_key kind name o ≡ is_eq (key_cmp o.kind o.name kind name)
same_as o kind name =
    ap₂ (λ a b. a && b) (equal_kinds o.kind kind) (sym (is_eq-slice_cmp o.name name))
    ∙ sym (equal_then (kind_cmp o.kind kind) (slice_cmp nat_cmp o.name name))

pub same_key : (o q : Object) → is_key q.kind q.name o ≡ is_eq (object_cmp o q)
same_key o q = same_as o q.kind q.name

pub less_apart : (o q : Object) → object_cmp o q ≡ Less → is_key q.kind q.name o ≡ false
less_apart o q h = same_key o q ∙ ap is_eq h

pub greater_apart : (o q : Object) → object_cmp o q ≡ Greater → is_key q.kind q.name o ≡ false
greater_apart o q h = same_key o q ∙ ap is_eq h

pub equal_same : (o q : Object) → object_cmp o q ≡ Equal → is_key q.kind q.name o ≡ true
equal_same o q h = same_key o q ∙ ap is_eq h

pub after : (o p : Object) → object_cmp o p ≡ Greater → ComesBefore p o
after o p h = object_order.antisymm p o ∙ ap ordering_reverse h

pub before : (o p : Object) → ComesBefore p o → object_cmp o p ≡ Greater
before o p h = object_order.antisymm o p ∙ ap ordering_reverse h

-- Lines stand for nodes or have one fault.
use Rattle.std.proofs.Common.{◌≡◌, ◌+◌, ◌≤◌, ◌⊎◌, inl, inr, ℕ, Bool, true, false, List, [], ◌∷◌}
use Rattle.std.proofs.Common.{◌++◌, Option, Some, None, length, ap, refl, sym, subst, ◌∙◌}
use Rattle.std.proofs.Common.{append_assoc, append-nil}
use Rattle.std.specs.Prelude.{nat_le, cond}
use Rattle.std.specs.Option.{is_none, is_some}
use Rattle.std.specs.Str.{IsUtf8}
use Rattle.std.specs.Str.Lines.{lines}
use Rattle.slo_limits.specs.declared.TheConstants.{MAX_TEXT_BYTES}
use Rattle.yaml_terms.specs.Tree.{Tree}
use Rattle.yaml_terms.specs.Mark.{start}
use Rattle.yaml_terms.specs.FaultOrder.{earlier, place}
use Rattle.yaml_terms.specs.Text.{MarkedLines, StandsFor, line_at, parent_after, scalar_after}
use Rattle.yaml_terms.specs.Text.{marked_lines}
use Rattle.yaml_terms.specs.Text.{nodes_of, without_mark}
use Rattle.yaml_terms.specs.OpenNodes.{Open, nothing, within, open_after_all, open_nodes}
use Rattle.yaml_terms.specs.OpenNodes.{documents_so_far}
use Rattle.yaml_terms.specs.Fault.{IsFault, misfit, fault_of}
use Rattle.yaml_subset.specs.Reader.{Reading, LinesAreRead, Follows}
use Rattle.yaml_terms.specs.declared.ProfileFault.{ProfileFault}
use Rattle.yaml_subset.proofs.TextLemmas.{misfit_of_add, nothing_read, read_nodes, read_more}
use Rattle.yaml_subset.proofs.TextLemmas.{fault_here}
use Rattle.yaml_terms.proofs.ReadLemmas.{first_lines, no_text_at_fault}

-- ONE FAULT

-- two places in one list: the first stands before the second, behind it, or is the same
abbrev Places : {A : Type 0} → List A → A → List A → A → Type 0
Places {A} b l c m = ((rest : List A) × (c ≡ (b ++ l ∷ []) ++ rest))
    ⊎ (((rest : List A) × (b ≡ (c ++ m ∷ []) ++ rest)) ⊎ ((b ≡ c) × (l ≡ m)))

one_further : {A : Type 0} (x y : A) (b c : List A) (l m : A) → x ≡ y → Places b l c m
    → Places (x ∷ b) l (y ∷ c) m
one_further {A} x y b c l m e (inl (rest, p)) =
    inl (rest, ap (λ (z : A). z ∷ c) (sym e) ∙ ap (λ (zs : List A). x ∷ zs) p)
one_further {A} x y b c l m e (inr (inl (rest, p))) =
    inr (inl (rest, ap (λ (z : A). z ∷ b) e ∙ ap (λ (zs : List A). y ∷ zs) p))
one_further {A} x y b c l m e (inr (inr (p, q))) =
    inr (inr (ap (λ (z : A). z ∷ b) e ∙ ap (λ (zs : List A). y ∷ zs) p, q))

places : {A : Type 0} (b : List A) (l : A) (x c : List A) (m : A) (y : List A)
    → b ++ l ∷ x ≡ c ++ m ∷ y → Places b l c m
places [] l x [] m y e = inr (inr (refl, cc e))
places [] l x (d ∷ c) m y e = let same : l ≡ d = cc e in inl (c, ap (λ z. z ∷ c) (sym same))
places (a ∷ b) l x [] m y e = let same : a ≡ m = cc e in inr (inl (b, ap (λ z. z ∷ b) same))
places (a ∷ b) l x (d ∷ c) m y e =
    let head : a ≡ d = cc e in
    let tail : b ++ l ∷ x ≡ c ++ m ∷ y = cc e in
    one_further a d b c l m head (places b l x c m y tail)

-- fewer lines than the first ones that are no text are a text, so no fault stands before another
not_before : (ls : List (List ℕ)) (j k : ℕ) (v w : ProfileFault) (f : IsFault ls j v)
    (g : IsFault ls k w)
    (rest : List (List ℕ)) →
    g.before ≡ (f.before ++ f.line ∷ []) ++ rest → ⊥
not_before ls j k v w f g rest e =
    let none = ap nodes_of e ∙ first_lines (f.before ++ f.line ∷ []) rest f.is_none in
    let some = g.is_text in
    cc (none, some)

same_fault : (ls : List (List ℕ)) (j k : ℕ) (v w : ProfileFault) (f : IsFault ls j v)
    (g : IsFault ls k w)
    → f.before ≡ g.before → f.line ≡ g.line → (j ≡ k) × (v ≡ w)
same_fault ls j k v w f g before line =
    let marks : f.marks ≡ g.marks = cc (f.are_marks, g.are_marks, ap marked_lines before) in
    let opens : f.nodes_open ≡ g.nodes_open =
    cc (f.are_open, g.are_open, ap (λ (s : MarkedLines). open_nodes s.marks) marks) in
    let fault : Some v ≡ Some w = sym f.meets
    ∙ ap (λ (s : MarkedLines). fault_of s.scalar f.nodes_open f.line) marks
    ∙ ap (λ (o : Open). fault_of g.marks.scalar o f.line) opens
    ∙ ap (fault_of g.marks.scalar g.nodes_open) line
    ∙ g.meets in
    (f.number ∙ ap (λ (b : List (List ℕ)). length b + 1) before ∙ sym g.number, cc fault)

-- lines have one fault at most
pub one_fault : (ls : List (List ℕ)) (j k : ℕ) (v w : ProfileFault) → IsFault ls j v
    → IsFault ls k w
    → (j ≡ k) × (v ≡ w)
one_fault ls j k v w f g =
    by (places f.before f.line f.after g.before g.line g.after (sym f.is_lines ∙ g.is_lines))
  where
    by : Places f.before f.line g.before g.line → (j ≡ k) × (v ≡ w)
    by (inl (rest, e)) = absurd (not_before ls j k v w f g rest e)
    by (inr (inl (rest, e))) = absurd (not_before ls k j w v g f rest e)
    by (inr (inr (before, line))) = same_fault ls j k v w f g before line

pub never_both : (ls : List (List ℕ)) (xs : List Tree) (k : ℕ) (w : ProfileFault)
    → nodes_of ls ≡ Some xs
    → IsFault ls k w → ⊥
never_both ls xs k w stands fault = let none = no_text_at_fault ls k w fault in cc (none, stands)

-- the first lines of a text are a text
pub first_of_text : (ls more : List (List ℕ)) (xs : List Tree) → nodes_of (ls ++ more) ≡ Some xs
    → (ys : List Tree) × (nodes_of ls ≡ Some ys)
first_of_text ls more xs stands = by (nodes_of ls) refl
  where
    by : (o : Option (List Tree)) → nodes_of ls ≡ o → (ys : List Tree) × (nodes_of ls ≡ Some ys)
    by None e = absurd (let none = first_lines ls more e in cc (none, stands))
    by (Some ys) e = (ys, e)

-- NODES OR A FAULT

-- what lines come to
abbrev pub Outcome : List (List ℕ) → Type 0
Outcome ls = ((xs : List Tree) × (nodes_of ls ≡ Some xs))
    ⊎ ((line : ℕ) × (which : ProfileFault) × IsFault ls line which)

some_not_none : (b : Bool) (v w : ProfileFault) → cond b (Some v) (Some w) ≡ None → ⊥
some_not_none true v w e = cc e
some_not_none false v w e = cc e

none_earlier : (a b : Option ProfileFault) → earlier a b ≡ None → (a ≡ None) × (b ≡ None)
none_earlier None None e = (refl, refl)
none_earlier None (Some w) e = absurd (let f : ⊥ = cc e in f)
none_earlier (Some v) None e = absurd (let f : ⊥ = cc e in f)
none_earlier (Some v) (Some w) e = absurd (some_not_none (nat_le (place v) (place w)) v w e)

some_of : (o : Option Open) → is_some o ≡ true → (p : Open) × (o ≡ Some p)
some_of None e = absurd (let f : ⊥ = cc e in f)
some_of (Some p) e = (p, refl)

-- what is kept behind a line that has no fault
follows : (r : Reading) (line : List ℕ) → fault_of r.scalar r.nodes line ≡ None
    → (next : Reading) × Follows r line next
follows r line e =
    let none = none_earlier (line_at r.scalar line).fault
    (misfit (line_at r.scalar line).marks r.nodes) e in
    let added = some_of (open_after_all (line_at r.scalar line).marks r.nodes)
    (sym (misfit_of_add (line_at r.scalar line).marks r.nodes)
    ∙ ap (λ (o : Option ProfileFault). is_none o) none.1) in (
      record {
        nodes = added.0;
        parent = parent_after r.parent (line_at r.scalar line).marks;
        scalar = scalar_after r.scalar r.parent line;
      },
      record { no_fault = none.0; nodes = added.1; parent = refl; scalar = refl },
    )

behind_read : (ls rest : List (List ℕ)) (r : Reading) → LinesAreRead ls r → Outcome (ls ++ rest)
behind_read ls [] r h =
    subst Outcome (sym (append-nil ls)) (inl (documents_so_far r.nodes, read_nodes ls r h))
behind_read ls (l ∷ rest) r h = by (fault_of r.scalar r.nodes l) refl
    (λ next f. behind_read (ls ++ l ∷ []) rest next (read_more ls l r h next f))
  where
    by : (o : Option ProfileFault) → fault_of r.scalar r.nodes l ≡ o
        → ((next : Reading) → Follows r l next → Outcome ((ls ++ l ∷ []) ++ rest))
        → Outcome (ls ++ l ∷ rest)
    by (Some w) e go = inr (length ls + 1, w, fault_here ls l r h rest w e)
    by None e go =
        let next = follows r l e in
        subst Outcome (append_assoc ls (l ∷ []) rest) (go next.0 next.1)

pub either : (ls : List (List ℕ)) → Outcome ls
either ls = behind_read [] ls
    (record { nodes = within start [] nothing; parent = None; scalar = None }) nothing_read

pub text_either : (text : List ℕ) → length text ≤ MAX_TEXT_BYTES → IsUtf8 (without_mark text)
    → ((xs : List Tree) × StandsFor text xs)
    ⊎ ((line : ℕ) × (which : ProfileFault) × IsFault (lines (without_mark text)) line which)
text_either text small utf8 = by (either (lines (without_mark text)))
  where
    by : Outcome (lines (without_mark text)) → ((xs : List Tree) × StandsFor text xs)
        ⊎ ((line : ℕ) × (which : ProfileFault) × IsFault (lines (without_mark text)) line which)
    by (inl (xs, e)) = inl (xs, record { small = small; utf8 = utf8; nodes = e })
    by (inr f) = inr f

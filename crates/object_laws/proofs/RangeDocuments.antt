-- What ties the fields of an object that a document stands for, and its kind: its canonical writing
-- stands for it alone, so it is a document's own.
use Rattle.std.proofs.Common.{◌≡◌, List, [], ◌∷◌, ◌++◌, Some, Ok, Err, refl, subst}
use Rattle.std.specs.Prelude.{codes}
use Rattle.std.specs.List.{AllByRecursion}
use Rattle.std.proofs.lemmas.List.Elements.{All-from_recursion, All-contains}
use Rattle.yaml_terms.specs.Tree.{Tree, Entries}
use Rattle.yaml_terms.specs.Spelling.{meant}
use Rattle.object_terms.specs.declared.Object.{Object}
use Rattle.object_terms.specs.declared.Body.{Body}
use Rattle.object_terms.specs.declared.Body.TheVariants as bodies
use Rattle.object_terms.specs.declared.Kind.{Kind}
use Rattle.object_terms.specs.declared.Kind.TheVariants as kinds
use Rattle.object_terms.specs.declared.Slo.{Slo}
use Rattle.object_terms.specs.Form.{Answer, map_with}
use Rattle.object_terms.specs.Document.{body, document, with_own, objects_of, written, IsOfDocument}
use Rattle.object_terms.specs.Slo.{slo, slo_in}
use Rattle.object_laws.specs.Kinds.{kind_of}
use Rattle.object_laws.specs.Ranges.{HasObjectives, IsWindow}
use Rattle.object_terms.proofs.AnswerLemmas.{ok_same, err_not_ok}
use Rattle.object_laws.proofs.RangeReading.{Reads, Makes, map_reads, mapped_gave}
use Rattle.object_laws.proofs.RangeLines.{required_gave}
use Rattle.object_laws.proofs.RangeTables.{IsSlo, slo_reads}

-- what a body is to be, by its variant
abbrev pub IsBody : Body → Type 0
IsBody (bodies.Slo s) = IsSlo s
IsBody _ = Unit {0}

abbrev Any : {A : Type 0} → A → Type 0
Any a = Unit {0}

-- a body whose fields are tied, of a kind
abbrev IsBodyOf : Kind → Body → Type 0
IsBodyOf kind b = IsBody b × (kind_of b ≡ kind)

body_reads : (kind : Kind) → Reads (body kind) (IsBodyOf kind)
unfolding body
body_reads kinds.DataSource key t =
    mapped_gave Any (IsBodyOf kinds.DataSource) bodies.DataSource (λ a q. (tt, refl)) _ (λ p e. tt)
body_reads kinds.Service key t =
    mapped_gave Any (IsBodyOf kinds.Service) bodies.Service (λ a q. (tt, refl)) _ (λ p e. tt)
body_reads kinds.Sli key t =
    mapped_gave Any (IsBodyOf kinds.Sli) bodies.Sli (λ a q. (tt, refl)) _ (λ p e. tt)
body_reads kinds.AlertPolicy key t = mapped_gave Any (IsBodyOf kinds.AlertPolicy) bodies.AlertPolicy
    (λ a q. (tt, refl)) _ (λ p e. tt)
body_reads kinds.AlertNotificationTarget key t =
    mapped_gave Any (IsBodyOf kinds.AlertNotificationTarget) bodies.AlertNotificationTarget
    (λ a q. (tt, refl)) _ (λ p e. tt)
body_reads kinds.Slo key t = mapped_gave IsSlo (IsBodyOf kinds.Slo) bodies.Slo (λ s h. (h, refl))
    ((map_with slo).read key t) (slo_reads key t)
body_reads kinds.AlertCondition key t = mapped_gave Any (IsBodyOf kinds.AlertCondition)
    bodies.AlertCondition (λ a q. (tt, refl)) _ (λ p e. tt)

-- an object whose fields are tied, and whose body is of its kind
abbrev IsSound : Object → Type 0
IsSound o = IsBodyOf o.kind o.body

document_makes : (es : Entries) → Makes document es IsSound
unfolding document
document_makes es = λ v _ k _ m _ s e.
    required_gave (IsBodyOf k.1) (codes "spec") (body k.1) (body_reads k.1) es s e

document_reads : Reads (map_with document) IsSound
document_reads = map_reads document IsSound document_makes

-- the object that a document alone stands for is its own
last_same : {X : Type 0} (xs : List X) (x y : X) → xs ++ x ∷ [] ≡ y ∷ [] → x ≡ y
last_same [] x y e = cc
last_same (z ∷ []) x y e = absurd (let f : ⊥ = cc in f)
last_same (z ∷ w ∷ ws) x y e = absurd (let f : ⊥ = cc in f)

own_body : (o : Object) (t : Tree) → objects_of t ≡ Ok (o ∷ []) → IsSound o
own_body o t e = by ((map_with document).read (codes "document") t) refl e
  where
    by : (a : Answer Object) → (map_with document).read (codes "document") t ≡ a
        → with_own a ≡ Ok (o ∷ []) → IsSound o
    by (Ok p) f g = subst IsSound (last_same p.0 p.1 o (ok_same (p.0 ++ p.1 ∷ []) (o ∷ []) g))
        (document_reads (codes "document") t p f)
    by (Err x) f g = absurd (err_not_ok x (o ∷ []) g)

-- each object that a document stands for is written as a document that stands for it alone
abbrev pub ReadsBack : Type 0
ReadsBack = (t : Tree) (os : List Object) → objects_of t ≡ Ok os
    → AllByRecursion (λ o. objects_of (meant (written o)) ≡ Ok (o ∷ [])) os

of_document : ReadsBack → (o : Object) → IsOfDocument o → IsSound o
of_document law o d = own_body o (meant (written o))
    (All-contains (λ p. objects_of (meant (written p)) ≡ Ok (p ∷ [])) d.objects o
    (All-from_recursion (λ p. objects_of (meant (written p)) ≡ Ok (p ∷ [])) d.objects
    (law d.node d.objects d.are_read)) d.is_among)

slo_of : (b : Body) (s : Slo) → slo_in b ≡ Some s → IsBody b → IsSlo s
slo_of (bodies.Slo t) s e h = subst IsSlo (let same : t ≡ s = cc e in same) h
slo_of _ s e h = absurd (let f : ⊥ = cc e in f)

pub slos : ReadsBack → (o : Object) (s : Slo) → IsOfDocument o → slo_in o.body ≡ Some s → IsSlo s
slos law o s d e = slo_of o.body s e (of_document law o d).0

pub objectives : ReadsBack → (o : Object) (s : Slo) → IsOfDocument o → slo_in o.body ≡ Some s
    → HasObjectives s
objectives law o s d e = (slos law o s d e).objectives

pub windows : ReadsBack → (o : Object) (s : Slo) → IsOfDocument o → slo_in o.body ≡ Some s
    → IsWindow s.time_window
windows law o s d e = (slos law o s d e).window

pub kinds_of : ReadsBack → (o : Object) → IsOfDocument o → kind_of o.body ≡ o.kind
kinds_of law o d = (of_document law o d).1

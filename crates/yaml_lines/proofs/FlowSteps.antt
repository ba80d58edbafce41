-- One-line lists, one step: by the parts of what is read so far, and by the byte that follows.
use Rattle.std.proofs.Common.{◌≡◌, ℕ, Bool, true, false, List, [], ◌∷◌, ◌++◌, Option, cond, map}
use Rattle.std.proofs.Common.{refl, ap, ◌∙◌, arith}
use Rattle.std.specs.Prelude.{◌==◌}
use Rattle.std.proofs.lemmas.Bool.Decides.{nat_tests}
use Rattle.yaml_terms.specs.Tree.{Tree, scalar}
use Rattle.yaml_terms.specs.Block.{is_blank_byte}
use Rattle.yaml_terms.specs.Flow.{Flow, in_want, is_flow_start, flow_item, flow_fault, byte_fault}
use Rattle.yaml_terms.specs.NodeView.{node_view}
use Rattle.yaml_terms.specs.declared.ProfileFault.{ProfileFault}
use Rattle.yaml_terms.specs.declared.Part.{Part}
use Rattle.yaml_terms.specs.declared.Part.TheVariants.{Plain, Broken}
use Rattle.yaml_terms.specs.declared.Node.{Node, Scalar}
use Rattle.yaml_terms.proofs.NodeLemmas.{nodes_push}

-- a list of these parts
abbrev of_parts : Part → List ℕ → List Tree → Option ProfileFault → Flow
of_parts p t xs f = record { part = p; text = t; items = xs; fault = f }

pub same_parts : (p : Part) (t u : List ℕ) (xs ys : List Tree) (f g : Option ProfileFault) → t ≡ u
    → xs ≡ ys → f ≡ g → of_parts p t xs f ≡ of_parts p u ys g
same_parts p t u xs ys f g a b c = (λ i. of_parts p (a i) (b i) (c i))

-- one scalar more among the items
pub scalar_more : (xs ys : List Node) (text t : List ℕ) (plain : Bool)
    → ys ≡ xs ++ Scalar text plain ∷ [] → text ≡ t
    → map node_view ys ≡ map node_view xs ++ scalar t plain ∷ []
scalar_more xs ys text t plain e f = ap (map node_view) e ∙ nodes_push xs text plain
    ∙ ap (λ (u : List ℕ). map node_view xs ++ scalar u plain ∷ []) f

pub want_blank : (s : Flow) (c next : ℕ) → is_blank_byte c ≡ true → in_want s c next ≡ s
want_blank s c next e = rw e refl

other_byte : (c k : ℕ) → (c ≡ k → ⊥) → (c == k) ≡ false
other_byte c k n = grind (arith, nat_tests)

-- a byte that is no blank, bracket, comma or quote
pub want_other : (s : Flow) (c next : ℕ) → is_blank_byte c ≡ false → (c ≡ 93 → ⊥) → (c ≡ 44 → ⊥)
    → (c ≡ 39 → ⊥) → (c ≡ 34 → ⊥)
    → in_want s c next ≡ cond (is_flow_start c next) (flow_item s Plain (c ∷ []))
    (flow_fault s Broken (byte_fault c next))
want_other s c next e k l m n =
    ap (λ (b : Bool). cond b s (behind_blank (c == 93) (c == 44) (c == 39) (c == 34))) e
    ∙ (λ i. behind_blank (other_byte c 93 k i) (other_byte c 44 l i) (other_byte c 39 m i)
    (other_byte c 34 n i))
  where
    behind_blank : Bool → Bool → Bool → Bool → Flow
    behind_blank p q r t = cond p (in_want s 93 next)
        (cond q (in_want s 44 next) (cond r (in_want s 39 next) (cond t (in_want s 34 next)
        (cond (is_flow_start c next) (flow_item s Plain (c ∷ []))
        (flow_fault s Broken (byte_fault c next))))))

pub want_start : (s : Flow) (c next : ℕ) → is_blank_byte c ≡ false → (c ≡ 93 → ⊥) → (c ≡ 44 → ⊥)
    → (c ≡ 39 → ⊥) → (c ≡ 34 → ⊥) → is_flow_start c next ≡ true
    → in_want s c next ≡ flow_item s Plain (c ∷ [])
want_start s c next e k l m n b = want_other s c next e k l m n ∙ ap
    (λ (d : Bool). cond d (flow_item s Plain (c ∷ [])) (flow_fault s Broken (byte_fault c next))) b

pub want_none : (s : Flow) (c next : ℕ) → is_blank_byte c ≡ false → (c ≡ 93 → ⊥) → (c ≡ 44 → ⊥)
    → (c ≡ 39 → ⊥) → (c ≡ 34 → ⊥) → is_flow_start c next ≡ false
    → in_want s c next ≡ flow_fault s Broken (byte_fault c next)
want_none s c next e k l m n b = want_other s c next e k l m n ∙ ap
    (λ (d : Bool). cond d (flow_item s Plain (c ∷ [])) (flow_fault s Broken (byte_fault c next))) b

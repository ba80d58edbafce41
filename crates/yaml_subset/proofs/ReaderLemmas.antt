-- One more mark of a line.
use Rattle.std.proofs.Common.{◌≡◌, ℕ, suc, ◌+◌, ◌-◌, ◌<◌, Bool, ◌++◌, take, option_map, List, []}
use Rattle.std.proofs.Common.{◌∷◌, Option, Some, None, length, drop, get_or, map, refl, sym, ap}
use Rattle.std.proofs.Common.{◌∙◌, add-one, arith}
use Rattle.std.proofs.Math.Seq.{drop-cons}
use Rattle.std.proofs.lemmas.List.{take-append-drop, drop_all, map_push}
use Rattle.yaml_terms.specs.Mark as marks
use Rattle.yaml_terms.specs.OpenNodes.{Open, open_after, open_after_all}
use Rattle.yaml_terms.specs.Fault.{misfit, fault_of_mark}
use Rattle.yaml_subset.specs.Reader.{header_folds}
use Rattle.yaml_terms.specs.Text.{parent_at, parent_after, header_scalar}
use Rattle.yaml_lines.specs.LineView.{mark_view}
use Rattle.yaml_lines.specs.declared.Mark.{Mark}

pub parent_after_more : (p : Option ℕ) (ms : List Mark) (at : ℕ) (d : Mark) → at < length ms
    → parent_after p (map mark_view (drop at ms))
    ≡ parent_after (parent_at (mark_view (get_or ms at d))) (map mark_view (drop (at + 1) ms))
parent_after_more p ms at d h =
    let e : drop at ms ≡ get_or ms at d ∷ drop (at + 1) ms = rw (add-one, drop-cons ms at d) refl in
    ap (λ (l : List Mark). parent_after p (map mark_view l)) e

-- a header at the end of marks, behind these
pub header_at_end : (p : Option ℕ) (ms : List marks.Mark) (m : marks.Mark)
    → header_scalar p (ms ++ (m ∷ [])) ≡ option_map (λ (folded : Bool).
    record { parent = parent_after p ms; indent = None; folded = folded }) (header_folds m)
header_at_end p [] marks.start = refl
header_at_end p [] (marks.dash n) = refl
header_at_end p [] (marks.key n k) = refl
header_at_end p [] (marks.value n x) = refl
header_at_end p [] (marks.header n s) = refl
header_at_end p [] (marks.raw l) = refl
header_at_end p (marks.start ∷ ms) m = header_at_end None ms m
header_at_end p (marks.dash n ∷ ms) m = header_at_end (Some n) ms m
header_at_end p (marks.key n k ∷ ms) m = header_at_end (Some n) ms m
header_at_end p (marks.value n x ∷ ms) m = header_at_end None ms m
header_at_end p (marks.header n s ∷ []) m = header_at_end None [] m
header_at_end p (marks.header n s ∷ y ∷ ms) m = header_at_end None (y ∷ ms) m
header_at_end p (marks.raw l ∷ ms) m = header_at_end None ms m

-- the last of a list, behind the others
pub all_but_last : (ms : List Mark) (d : Mark) → 0 < length ms
    → ms ≡ take (length ms - 1) ms ++ (get_or ms (length ms - 1) d ∷ [])
all_but_last ms d h =
    let n : ℕ = length ms - 1 in
    let e : drop n ms ≡ get_or ms n d ∷ drop (suc n) ms = drop-cons ms n d (omega arith) in
    let none : drop (suc n) ms ≡ [] = drop_all (suc n) ms (omega arith) in
    sym (take-append-drop n ms) ∙ ap (λ (l : List Mark). take n ms ++ l)
    (e ∙ ap (λ (l : List Mark). get_or ms n d ∷ l) none)

pub header_last : (p : Option ℕ) (ms : List Mark) (d : Mark) → 0 < length ms
    → header_scalar p (map mark_view ms) ≡ option_map (λ (folded : Bool).
    record {
      parent = parent_after p (map mark_view (take (length ms - 1) ms));
      indent = None;
      folded = folded;
    }) (header_folds (mark_view (get_or ms (length ms - 1) d)))
header_last p ms d h =
    ap (λ (l : List Mark). header_scalar p (map mark_view l)) (all_but_last ms d h)
    ∙ ap (header_scalar p) (map_push mark_view (take (length ms - 1) ms)
    (get_or ms (length ms - 1) d))
    ∙ header_at_end p (map mark_view (take (length ms - 1) ms))
    (mark_view (get_or ms (length ms - 1) d))

pub added_more : (m : marks.Mark) (ms : List marks.Mark) (o p : Open) → open_after m o ≡ Some p
    → (open_after_all (m ∷ ms) o ≡ open_after_all ms p) × (misfit (m ∷ ms) o ≡ misfit ms p)
added_more m ms o p e = (rw e refl, rw e refl)

pub misfit_here : (m : marks.Mark) (ms : List marks.Mark) (o : Open) → open_after m o ≡ None
    → misfit (m ∷ ms) o ≡ Some (fault_of_mark m o)
misfit_here m ms o e = rw e refl

-- Where a piece stands nowhere.
use Rattle.std.proofs.Common.{◌≡◌, ℕ, ◌+◌, List, [], ◌∷◌, ◌++◌, length, Option, Some, None}
use Rattle.std.proofs.Common.{sym, ap, ◌∙◌, arith, append_assoc, flat_map}
use Rattle.std.proofs.Common.{length-append, slice_index, is_some, false}
use Rattle.std.specs.List.{AllByRecursion}
use Rattle.std.proofs.lemmas.List.{get_or-append-add, get_or_append_left}
use Rattle.memchr.specs.Find.{FindsNeedle}
use Rattle.office_outside.specs.Told.{Gained}
use Rattle.message_session.specs.Sessions.{Turn}
use Rattle.generate_command.specs.Playing.{HasNone}

module _ (piece : List ℕ) where
  -- what stands nowhere in two texts stands nowhere in either
  pub none_before : (a b : List ℕ) → HasNone piece (a ++ b) → HasNone piece a
  none_before a b none front back is =
      none front (back ++ b)
      (ap (λ (l : List ℕ). l ++ b) is
      ∙ append_assoc front (piece ++ back) b
      ∙ ap (λ (l : List ℕ). front ++ l) (append_assoc piece back b))

  pub none_behind : (a b : List ℕ) → HasNone piece (a ++ b) → HasNone piece b
  none_behind a b none front back is =
      none (a ++ front) back
      (ap (λ (l : List ℕ). a ++ l) is ∙ sym (append_assoc a front (piece ++ back)))

  -- nor in the answers of turns
  pub none_in_turns : (turns : List Turn)
      → HasNone piece (flat_map (λ (t : Turn). t.answer) turns)
      → AllByRecursion (λ (t : Turn). HasNone piece t.answer) turns
  none_in_turns [] none = tt
  none_in_turns (t ∷ ts) none = (
    none_before t.answer (flat_map (λ (u : Turn). u.answer) ts) none,
    none_in_turns ts (none_behind t.answer (flat_map (λ (u : Turn). u.answer) ts) none),
  )

-- an object that tells its bytes tells those that it gained
pub gained_told : (xs b : List ℕ) (c : Option (List ℕ)) → Gained xs (Some b) c → c ≡ Some (b ++ xs)
gained_told xs b None gained = absurd gained
gained_told xs b (Some c) gained = ap (λ (l : List ℕ). Some l) gained

-- what a search doesn't find stands nowhere
pub none_found : (bytes piece : List ℕ) (found : Option ℕ) → FindsNeedle bytes piece 0 found
    → is_some found ≡ false → HasNone piece bytes
none_found bytes piece (Some k) finds none = cc none
none_found bytes piece None finds none =
    λ front back is.
    let whole : length bytes ≡ length front + (length piece + length back) =
    ap (λ (l : List ℕ). length l) is ∙ length-append front (piece ++ back)
    ∙ ap (λ (n : ℕ). length front + n) (length-append piece back) in
    finds (length front) (omega arith) (omega (arith, whole))
    (record {
      fits = omega (arith, whole);
      reads =
          λ j below.
          ap (λ (l : List ℕ). slice_index l (length front + j)) is
          ∙ get_or-append-add front (piece ++ back) j 0
          ∙ get_or_append_left piece back 0 j below;
    })

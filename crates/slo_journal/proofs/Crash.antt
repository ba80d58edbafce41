-- What a crash leaves in each of the two steps of an `append`.
use Rattle.std.proofs.Common.{◌≡◌, ℕ, ◌+◌, ◌-◌, ◌≤◌, ◌<◌, min, List, [], ◌∷◌, ◌++◌, length, take}
use Rattle.std.proofs.Common.{drop, get_or, replicate, Some, None, refl, sym, ap, ◌∙◌, subst, arith}
use Rattle.std.proofs.Common.{append_assoc, length-append, take-append-drop}
use Rattle.std.specs.declared.option.Option.{Option}
use Rattle.std.specs.Prelude.{IfSome}
use Rattle.std.proofs.lemmas.List.{take_at, drop_at, drop_more, append-nil}
use Rattle.office_outside.specs.Disk.{Torn, Follows, OnlyAsRead, IsWritten, file_after_write, All}
use Rattle.slo_journal.specs.File.{four, IsRecord, frame_of, Records, Parts, Closed, size_of}
use Rattle.slo_journal.specs.File.{tail_of, Stands, EitherGate, Staged, Opened, StandsInDoubt}
use Rattle.slo_journal.proofs.Files.{Ends, SplitFile, splits_file, joins_file, length-file, by_gate}

-- the file begins with these bytes
abbrev pub Begins : List ℕ → List ℕ → Type 0
Begins front file = (rest : List ℕ) × (file ≡ front ++ rest)

-- what a write that was done makes of a disk that tells
pub was_written : (at : ℕ) (bytes : List ℕ) (old new : Option (List ℕ)) (c : List ℕ)
    → IsWritten at bytes old new → new ≡ Some c → (d : List ℕ) × (old ≡ Some d)
    × (c ≡ file_after_write d at bytes)
was_written at bytes None None c w e = absurd (cc)
was_written at bytes None (Some new) c w e = absurd w
was_written at bytes (Some old) None c w e = absurd w
was_written at bytes (Some old) (Some new) c w e = (old, refl, sym (some_is e) ∙ w)
  where
    some_of : Option (List ℕ) → List ℕ
    some_of None = new
    some_of (Some x) = x

    some_is : Some new ≡ Some c → new ≡ c
    some_is e = ap some_of e

pub told_image : (content : Option (List ℕ)) (images : List ℕ → Type 0) (d : List ℕ)
    → IfSome content images → content ≡ Some d → images d
told_image content images d read e = let P : Option (List ℕ) → Type 0 = λ o. IfSome o images in
    subst P e read

-- bytes before a write stay in each image of it
pub torn_keeps : (front rest c : List ℕ) (n : ℕ) → Torn (length front) n (front ++ rest) c
    → Begins front c
torn_keeps front rest c n torn =
    let long : length front ≤ length (front ++ rest) = omega (arith, length-append front rest) in
    let m : min (length front) (length (front ++ rest)) ≡ length front = omega (arith, long) in
    let same : take (length front) c ≡ front = ap (λ k. take k c) (sym m) ∙ torn.before
    ∙ take_at front rest (length front) refl in (
      drop (length front) c,
      sym (take-append-drop (length front) c)
          ∙ ap (λ (l : List ℕ). l ++ drop (length front) c) same,
    )

-- and in what it writes
pub written_at : (front rest bytes : List ℕ) → file_after_write (front ++ rest) (length front) bytes
    ≡ front ++ (bytes ++ drop (length front + length bytes) (front ++ rest))
written_at front rest bytes =
    let none : length front - length (front ++ rest) ≡ 0 =
    omega (arith, length-append front rest) in
    ap (λ (l : List ℕ). l ++ replicate (length front - length (front ++ rest)) 0 ++ bytes ++ drop
    (length front + length bytes) (front ++ rest)) (take_at front rest (length front) refl)
    ∙ ap (λ k. front ++ replicate k 0 ++ bytes
    ++ drop (length front + length bytes) (front ++ rest)) none
    ∙ ap (λ (l : List ℕ). l ++ bytes ++ drop (length front + length bytes) (front ++ rest))
    (append-nil front)
    ∙ append_assoc front bytes (drop (length front + length bytes) (front ++ rest))

-- what stands at the tail, behind the records
module _ (o : ℕ) (rs : List (List ℕ)) (tail : ℕ) (is : tail ≡ tail_of rs) where
  at_tail : (front : List ℕ) → Parts Ends o rs front → tail ≡ length front
  at_tail front p = is ∙ sym (length-file o rs front p)

  length-closed : (front : List ℕ) → Parts Ends o rs front → length (front ++ 0 ∷ []) ≡ tail + 1
  length-closed front p = omega (arith, at_tail front p, length-append front (0 ∷ []))

  -- the closed gate stands in each image of the first write
  pub behind : (n : ℕ) (old new : List ℕ → Type 0) → All (Stands o rs) old
      → Follows (Torn (tail + 1) n) old new → All (Stands o rs) new
  behind n old new all follows c image =
      let from = follows c image in
      let d = all from.0 from.1 in
      let s = splits_file Closed o rs from.0 d.parts in
      let split : from.0 ≡ (s.front ++ 0 ∷ []) ++ s.is.0 = s.split
      ∙ ap (λ (l : List ℕ). s.front ++ l) s.is.1 ∙ sym (append_assoc s.front (0 ∷ []) s.is.0) in
      let kept = torn_keeps (s.front ++ 0 ∷ []) s.is.0 c n
      (subst (λ k. Torn k n ((s.front ++ 0 ∷ []) ++ s.is.0) c) (sym (length-closed s.front s.are))
      (subst (λ (l : List ℕ). Torn (tail + 1) n l c) split from.2)) in
      record {
        small = d.small;
        parts = subst (Parts Closed o rs) (sym (kept.1 ∙ append_assoc s.front (0 ∷ []) kept.0))
            (joins_file Closed o rs s.front (0 ∷ kept.0) s.are (kept.0, refl));
      }

  -- after a sync the frame stands behind it
  pub staged : (r : List ℕ) (old_content new_content : Option (List ℕ)) (old new : List ℕ → Type 0)
      → All (Stands o rs) old → IfSome old_content old
      → IsWritten (tail + 1) (frame_of r) old_content new_content → OnlyAsRead new_content new
      → All (Parts (Staged r) o rs) new
  staged r old_content new_content old new all read written only c image =
      let w =
      was_written (tail + 1) (frame_of r) old_content new_content c written (only c image) in
      let d = all w.0 (told_image old_content old w.0 read w.1) in
      let s = splits_file Closed o rs w.0 d.parts in
      let split : w.0 ≡ (s.front ++ 0 ∷ []) ++ s.is.0 = s.split
      ∙ ap (λ (l : List ℕ). s.front ++ l) s.is.1 ∙ sym (append_assoc s.front (0 ∷ []) s.is.0) in
      let after =
      drop (length (s.front ++ 0 ∷ []) + length (frame_of r)) ((s.front ++ 0 ∷ []) ++ s.is.0) in
      let c_is : c ≡ s.front ++ 0 ∷ (frame_of r ++ after) =
      w.2 ∙ ap (λ (l : List ℕ). file_after_write l (tail + 1) (frame_of r)) split
      ∙ ap (λ k. file_after_write ((s.front ++ 0 ∷ []) ++ s.is.0) k (frame_of r))
      (sym (length-closed s.front s.are))
      ∙ written_at (s.front ++ 0 ∷ []) s.is.0 (frame_of r)
      ∙ append_assoc s.front (0 ∷ []) (frame_of r ++ after) in
      subst (Parts (Staged r) o rs) (sym c_is)
      (joins_file (Staged r) o rs s.front (0 ∷ (frame_of r ++ after)) s.are (after, refl))

  past : (front : List ℕ) → tail ≡ length front → (gate : ℕ) (more : List ℕ)
      → drop (tail + 1) (front ++ gate ∷ more) ≡ more
  past front long gate more = ap (drop (tail + 1)) (sym (append_assoc front (gate ∷ []) more))
      ∙ drop_at (front ++ gate ∷ []) more (tail + 1) (omega (
        arith,
        long,
        length-append front (gate ∷ []),
      ))

  -- the record stands whole in each image of the second write, whatever the gate
  pub torn_gate : (r : List ℕ) (old new : List ℕ → Type 0) → All (Parts (EitherGate r) o rs) old
      → Follows (Torn tail 1) old new → All (Parts (EitherGate r) o rs) new
  torn_gate r old new all follows c image =
      let from = follows c image in
      let s = splits_file (EitherGate r) o rs from.0 (all from.0 from.1) in
      let more = frame_of r ++ s.is.1 in
      let long = at_tail s.front s.are in
      let split : from.0 ≡ s.front ++ s.is.0 ∷ more = s.split
      ∙ ap (λ (l : List ℕ). s.front ++ l) s.is.2 in
      let torn = subst (λ (l : List ℕ). Torn tail 1 l c) split from.2 in
      let kept = torn_keeps s.front (s.is.0 ∷ more) c 1
      (subst (λ k. Torn k 1 (s.front ++ s.is.0 ∷ more) c) long torn) in
      let gate = get_or c tail 0 in
      let longer : tail < length c = omega (
        arith,
        torn.no_shorter,
        long,
        length-append s.front (s.is.0 ∷ more),
      ) in
      let back : drop tail c ≡ gate ∷ more = drop_more c tail 0 longer
      ∙ ap (λ (l : List ℕ). gate ∷ l) (torn.after ∙ past s.front long s.is.0 more) in
      let front_is : drop tail c ≡ kept.0 = ap (drop tail) kept.1
      ∙ drop_at s.front kept.0 tail (sym long) in
      subst (Parts (EitherGate r) o rs)
      (sym (kept.1 ∙ ap (λ (l : List ℕ). s.front ++ l) (sym front_is ∙ back)))
      (joins_file (EitherGate r) o rs s.front (gate ∷ more) s.are (gate, s.is.1, refl))

  -- after a sync the gate is open
  pub opened : (r : List ℕ) (old_content new_content : Option (List ℕ)) (old new : List ℕ → Type 0)
      → All (Parts (EitherGate r) o rs) old → IfSome old_content old
      → IsWritten tail (1 ∷ []) old_content new_content → OnlyAsRead new_content new
      → All (Parts (Opened r) o rs) new
  opened r old_content new_content old new all read written only c image =
      let w = was_written tail (1 ∷ []) old_content new_content c written (only c image) in
      let s =
      splits_file (EitherGate r) o rs w.0 (all w.0 (told_image old_content old w.0 read w.1)) in
      let more = frame_of r ++ s.is.1 in
      let long = at_tail s.front s.are in
      let split : w.0 ≡ s.front ++ s.is.0 ∷ more = s.split
      ∙ ap (λ (l : List ℕ). s.front ++ l) s.is.2 in
      let c_is : c ≡ s.front ++ 1 ∷ more =
      w.2 ∙ ap (λ (l : List ℕ). file_after_write l tail (1 ∷ [])) split
      ∙ ap (λ k. file_after_write (s.front ++ s.is.0 ∷ more) k (1 ∷ [])) long
      ∙ written_at s.front (s.is.0 ∷ more) (1 ∷ [])
      ∙ ap (λ k. s.front ++ (1 ∷ [] ++ drop (k + 1) (s.front ++ s.is.0 ∷ more))) (sym long)
      ∙ ap (λ (l : List ℕ). s.front ++ (1 ∷ [] ++ l)) (past s.front long s.is.0 more) in
      subst (Parts (Opened r) o rs) (sym c_is)
      (joins_file (Opened r) o rs s.front (1 ∷ more) s.are (s.is.1, refl))

-- Pieces of a file, and what a reader sees in them.
use Rattle.std.proofs.Common.{◌≡◌, ℕ, zero, suc, ◌+◌, ◌-◌, ◌≤◌, ◌<◌, min, max, List, [], ◌∷◌}
use Rattle.std.proofs.Common.{length, take, drop, refl, sym, ap, ◌∙◌, arith}
use Rattle.std.proofs.lemmas.List.{take_min, drop-drop, length-take, length-drop}
use Rattle.office_outside.specs.Disk.{IsRead}
use Rattle.slo_journal.specs.Scanning.{seen_from, StandsAt}
use Rattle.slo_limits.specs.declared.TheConstants.{MAX_JOURNAL_BYTES}

pub take_take : (m n : ℕ) (l : List ℕ) → take m (take n l) ≡ take (min m n) l
take_take zero n l = let e : min zero n ≡ zero = omega arith in sym (ap (λ (k : ℕ). take k l) e)
take_take (suc m) zero l = let e : min (suc m) zero ≡ zero = omega arith in
    sym (ap (λ (k : ℕ). take k l) e)
take_take (suc m) (suc n) [] = let e : min (suc m) (suc n) ≡ suc (min m n) = omega arith in
    sym (ap (λ (k : ℕ). take k []) e)
take_take (suc m) (suc n) (x ∷ l) = let e : min (suc m) (suc n) ≡ suc (min m n) = omega arith in
    ap (λ (t : List ℕ). x ∷ t) (take_take m n l) ∙ sym (ap (λ (k : ℕ). take k (x ∷ l)) e)

abbrev empty : List ℕ
empty = []

take_nothing : (k : ℕ) → [] ≡ take k empty
take_nothing zero = refl
take_nothing (suc k) = refl

pub drop_take : (m n : ℕ) (l : List ℕ) → drop m (take n l) ≡ take (n - m) (drop m l)
drop_take zero n l = let e : n - zero ≡ n = omega arith in sym (ap (λ (k : ℕ). take k l) e)
drop_take (suc m) zero l = let e : zero - suc m ≡ zero = omega arith in
    sym (ap (λ (k : ℕ). take k (drop (suc m) l)) e)
drop_take (suc m) (suc n) [] = take_nothing (suc n - suc m)
drop_take (suc m) (suc n) (x ∷ l) = let e : suc n - suc m ≡ n - m = omega arith in
    drop_take m n l ∙ sym (ap (λ (k : ℕ). take k (drop m l)) e)

-- what a read of so many bytes gave
pub bytes_read : (at size count : ℕ) (file piece : List ℕ) → length piece ≡ size
    → IsRead at file piece count → take count piece ≡ take size (drop at file)
bytes_read at size count file piece long read =
    let cut : count ≡ min size (length (drop at file)) = omega (
      arith,
      long,
      read.count_is,
      length-drop at file,
    ) in
    read.bytes ∙ ap (λ (k : ℕ). take k (drop at file)) cut ∙ take_min size (drop at file)

-- the first bytes of the rest of a file stand there
pub stands_there : (start size : ℕ) (bytes file : List ℕ) → bytes ≡ take size (drop start file)
    → StandsAt start bytes file
stands_there start size bytes file is =
    let long : length bytes ≡ min size (length (drop start file)) = ap length is
    ∙ length-take size (drop start file) in
    is ∙ sym (ap (λ (k : ℕ). take k (drop start file)) long ∙ take_min size (drop start file))

module _ (at need : ℕ) (file : List ℕ) where
  -- a piece that begins there shows what a reader sees
  pub seen_anew : (next size : ℕ) (bytes : List ℕ) → need ≤ next
      → size ≡ min next (MAX_JOURNAL_BYTES - at)
      → bytes ≡ take size (drop at file) → take need bytes ≡ take need (seen_from at file)
  seen_anew next size bytes enough is read =
      let e : min need size ≡ min need (MAX_JOURNAL_BYTES - at) = omega (arith, is, enough) in
      ap (take need) read ∙ take_take need size (drop at file)
      ∙ ap (λ (k : ℕ). take k (drop at file)) e
      ∙ sym (take_take need (MAX_JOURNAL_BYTES - at) (drop at file))

  -- so does one that reaches far enough
  pub seen_before : (start : ℕ) (bytes : List ℕ) → start ≤ at → at + need ≤ start + length bytes
      → start + length bytes ≤ MAX_JOURNAL_BYTES → StandsAt start bytes file
      → take need (drop (at - start) bytes) ≡ take need (seen_from at file)
  seen_before start bytes before covers within is =
      let k = at - start in
      let n = length bytes in
      let place : start + k ≡ at = omega (arith, before) in
      let back : drop k bytes ≡ take (n - k) (drop at file) = ap (drop k) is
      ∙ drop_take k n (drop start file)
      ∙ ap (take (n - k)) (drop-drop k start file ∙ ap (λ (m : ℕ). drop m file) place) in
      let e : min need (n - k) ≡ min need (MAX_JOURNAL_BYTES - at) = omega
      (arith, before, covers, within) in
      ap (take need) back ∙ take_take need (n - k) (drop at file)
      ∙ ap (λ (m : ℕ). take m (drop at file)) e
      ∙ sym (take_take need (MAX_JOURNAL_BYTES - at) (drop at file))

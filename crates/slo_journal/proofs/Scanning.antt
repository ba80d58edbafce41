-- What a scan finds at a gate.
use Rattle.std.proofs.Common.{◌≡◌, ◌≢◌, inl, inr, ◌⊎◌, ℕ, zero, suc, ◌+◌, ◌-◌, ◌≤◌, ◌<◌, min, List}
use Rattle.std.proofs.Common.{[], ◌∷◌, ◌++◌, length, take, drop, get_or, refl, sym, ap, ◌∙◌, subst}
use Rattle.std.proofs.Common.{arith, append_assoc, length-append, take-append-drop, length-drop}
use Rattle.std.proofs.Common.{codes, ◌^◌}
use Rattle.std.proofs.lemmas.List.{take_at, drop_at, take_min, take_rest, drop-drop, length-take}
use Rattle.slo_journal.specs.File.{four, IsRecord, Closed}
use Rattle.slo_limits.specs.declared.TheConstants.{MAX_MINUTE}
use Rattle.slo_journal.specs.Front.{IsHeader}
use Rattle.slo_journal.specs.Scanning.{seen_from, IsHead, IsOpening, HasRecord}
use Rattle.slo_journal.specs.declared.scan.Head.TheVariants.{Broken}
use Rattle.slo_journal.proofs.Files.{four_same, head_same}
use Rattle.slo_journal.proofs.Pieces.{drop_take}

-- a closed gate at the front of what was read
pub shut_here : (x : List ℕ) → Closed (take 5 x) → Closed x
shut_here x s =
    (s.0 ++ drop 5 x, sym (take-append-drop 5 x) ∙ ap (λ (l : List ℕ). l ++ drop 5 x) s.1)

closed_head : (x : List ℕ) → Closed x → Closed (take 5 x)
closed_head x s = (take 4 s.0, ap (take 5) s.1)

opening_of : (r x : List ℕ) → HasRecord r x → IsOpening (length r) (take 5 x)
opening_of r x h = record {
  gate = h.gate;
  is_open = h.is_open;
  least = h.is_record.least;
  most = h.is_record.most;
  same = ap (take 5) h.same ∙ take_at (h.gate ∷ four (length r)) (r ++ h.rest) 5 refl;
}

pub broken_here : (x : List ℕ) → IsHead (take 5 x) Broken
    → (Closed x → ⊥) × ((r : List ℕ) → HasRecord r x → ⊥)
broken_here x b = ((λ s. b.0 (closed_head x s)), (λ r h. b.1 (length r) (opening_of r x h)))

-- a record that would pass the end
pub short_here : (x : List ℕ) (n : ℕ) → IsOpening n (take 5 x) → length x < 5 + n
    → (Closed x → ⊥) × ((r : List ℕ) → HasRecord r x → ⊥)
short_here x n o short = (shut, whole)
  where
    shut : Closed x → ⊥
    shut s = o.is_open (head_same _ _ _ _ (sym o.same ∙ (closed_head x s).1)).0

    whole : (r : List ℕ) → HasRecord r x → ⊥
    whole r h =
        let p = opening_of r x h in
        let e = (head_same _ _ _ _ (sym o.same ∙ p.same)).1 in
        let same : n ≡ length r = (four_same n (length r) [] [] (omega (
          arith,
          o.most,
        )) (omega (arith, h.is_record.most)) (ap (λ (l : List ℕ). l ++ []) e)).0 in
        absurd (omega (
          arith,
          short,
          same,
          ap length h.same,
          length-append (four (length r)) (r ++ h.rest),
          length-append r h.rest,
        ))

-- a record that was read whole
pub whole_here : (x out : List ℕ) (n : ℕ) → IsOpening n (take 5 x) → out ≡ take n (drop 5 x)
    → length out ≡ n → HasRecord out x
whole_here x out n o read long =
    let rest = drop n (drop 5 x) in
    let whole : x ≡ o.gate ∷ (four n ++ (out ++ rest)) =
    sym (take-append-drop 5 x) ∙ ap (λ (l : List ℕ). l ++ drop 5 x) o.same
    ∙ ap (λ (l : List ℕ). o.gate ∷ (four n ++ l)) (sym (take-append-drop n (drop 5 x))
    ∙ ap (λ (l : List ℕ). l ++ rest) (sym read)) in
    record {
      gate = o.gate;
      rest = rest;
      is_open = o.is_open;
      is_record = record {
        least = omega (arith, long, o.least);
        most = omega (arith, long, o.most);
      };
      same = whole ∙ ap (λ (m : ℕ). o.gate ∷ (four m ++ (out ++ rest))) (sym long);
    }

-- the record's bytes, in what was seen of it
pub record_seen : (n : ℕ) (bytes x out : List ℕ) → take (5 + n) bytes ≡ take (5 + n) x
    → out ≡ take n (drop 5 bytes) → out ≡ take n (drop 5 x)
record_seen n bytes x out same read =
    let cut : 5 + n - 5 ≡ n = omega arith in
    read ∙ sym (ap (λ (k : ℕ). take k (drop 5 bytes)) cut) ∙ sym (drop_take 5 (5 + n) bytes)
    ∙ ap (drop 5) same ∙ drop_take 5 (5 + n) x ∙ ap (λ (k : ℕ). take k (drop 5 x)) cut

-- where too few bytes were seen there are no more
pub ends_early : (n : ℕ) (bytes x : List ℕ) → take n bytes ≡ take n x → length bytes < n
    → length x < n
ends_early n bytes x same few = omega (
  arith,
  few,
  ap length same,
  length-take n bytes,
  length-take n x,
)

pub thirteen : (bytes : List ℕ) → length bytes ≡ 13
    → bytes ≡ get_or bytes 0 0 ∷ (take 8 (drop 1 bytes) ++ drop 9 bytes)
thirteen [] long = absurd (omega (arith, long))
thirteen (x ∷ bytes) long = ap (λ (l : List ℕ). x ∷ l) (sym (take-append-drop 8 bytes))

pub header_made : (bytes : List ℕ) (o : ℕ) → length bytes ≡ 13 → get_or bytes 0 0 ≢ 0
    → take 8 (drop 1 bytes) ≡ codes "OSLOJRN1" → take (length bytes - 9) (drop 9 bytes) ≡ four o
    → o ≤ MAX_MINUTE → IsHeader o bytes
header_made bytes o long is_open name number range = record {
  gate = get_or bytes 0 0;
  is_open = is_open;
  in_range = range;
  same = thirteen bytes long ∙ ap (λ (l : List ℕ). get_or bytes 0 0 ∷ (l ++ drop 9 bytes)) name
      ∙ ap (λ (l : List ℕ). get_or bytes 0 0 ∷ (codes "OSLOJRN1" ++ l))
      (sym (take_rest bytes 9) ∙ number);
}

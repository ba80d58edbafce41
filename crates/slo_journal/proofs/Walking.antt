-- A scan from the first record on.
use Rattle.std.proofs.Common.{◌≡◌, ◌≢◌, ℕ, ◌+◌, ◌-◌, ◌≤◌, ◌<◌, List, [], ◌∷◌, ◌++◌, length, take}
use Rattle.std.proofs.Common.{drop, refl, sym, ap, ◌∙◌, subst, arith, append_assoc, length-append}
use Rattle.std.proofs.Common.{take-append-drop, zero, suc, inl, inr, ◌⊎◌, ⊎_elim, codes}
use Rattle.std.proofs.Math.Seq.{take-append-add}
use Rattle.std.proofs.lemmas.List.{take_at, drop_at, append-nil, length-take}
use Rattle.slo_journal.specs.File.{four, IsRecord, Closed, Records, Parts, Stands, size_of, tail_of}
use Rattle.slo_journal.specs.Scanning.{seen_from, HasRecord}
use Rattle.slo_journal.specs.Legal.{Anything, Legal, Walks, StopsAt}
use Rattle.slo_journal.proofs.Files.{SplitFile, splits_file, joins_file, length-file, one_more_file}
use Rattle.slo_journal.proofs.Files.{weaker_file, same_front, same_header, head_same}
use Rattle.slo_limits.specs.declared.TheConstants.{MAX_JOURNAL_BYTES}

-- what stands behind the records is what is dropped from the file
pub at_place : (P : List ℕ → Type 0) (o : ℕ) (rs : List (List ℕ)) (at : ℕ) (file : List ℕ)
    → at ≡ tail_of rs → (s : SplitFile P o rs file) → drop at file ≡ s.rest
at_place P o rs at file place s = ap (drop at) s.split
    ∙ drop_at s.front s.rest at (length-file o rs s.front s.are ∙ sym place)

whole_of : (at : ℕ) (file : List ℕ)
    → drop at file ≡ seen_from at file ++ drop (MAX_JOURNAL_BYTES - at) (drop at file)
whole_of at file = sym (take-append-drop (MAX_JOURNAL_BYTES - at) (drop at file))

pub gains : (o : ℕ) (rs : List (List ℕ)) (r : List ℕ) (at : ℕ) (file : List ℕ)
    → Parts Anything o rs file → at ≡ tail_of rs → HasRecord r (seen_from at file)
    → Parts Anything o (rs ++ r ∷ []) file
gains o rs r at file p place h =
    let s = splits_file Anything o rs file p in
    let more = drop (MAX_JOURNAL_BYTES - at) (drop at file) in
    let same : s.rest ≡ h.gate ∷ (four (length r) ++ (r ++ (h.rest ++ more))) =
    sym (at_place Anything o rs at file place s) ∙ whole_of at file
    ∙ ap (λ (l : List ℕ). l ++ more) h.same
    ∙ ap (λ (l : List ℕ). h.gate ∷ l) (append_assoc (four (length r)) (r ++ h.rest) more
    ∙ ap (λ (l : List ℕ). four (length r) ++ l) (append_assoc r h.rest more)) in
    let step : Records Anything (r ∷ []) s.rest =
    (h.gate, h.rest ++ more, h.is_open, h.is_record, same, tt) in
    one_more_file Anything o rs r file (subst (Parts (Records Anything (r ∷ [])) o rs) (sym s.split)
    (joins_file (Records Anything (r ∷ [])) o rs s.front s.rest s.are step))

pub closes : (o : ℕ) (rs : List (List ℕ)) (at : ℕ) (file : List ℕ) → Parts Anything o rs file
    → at ≡ tail_of rs → at < MAX_JOURNAL_BYTES → Closed (seen_from at file) → Stands o rs file
closes o rs at file p place few shut =
    let s = splits_file Anything o rs file p in
    let more = drop (MAX_JOURNAL_BYTES - at) (drop at file) in
    let same : s.rest ≡ 0 ∷ (shut.0 ++ more) = sym (at_place Anything o rs at file place s)
    ∙ whole_of at file ∙ ap (λ (l : List ℕ). l ++ more) shut.1 in
    record {
      small = omega (arith, place, few);
      parts = subst (Parts Closed o rs) (sym s.split)
          (joins_file Closed o rs s.front s.rest s.are (shut.0 ++ more, same));
    }

-- a list that the bytes stand for goes on behind the records that were walked
pub record GoesOn (rs hs : List (List ℕ)) (bytes : List ℕ) : Type 0 where
  pub more : List (List ℕ)
  pub same : hs ≡ rs ++ more
  pub records_are : Records (Records Closed more) rs bytes

goes_on : (rs hs : List (List ℕ)) (bytes : List ℕ) → Records Anything rs bytes
    → Records Closed hs bytes → GoesOn rs hs bytes
goes_on [] hs bytes any all = record { more = hs; same = refl; records_are = all }
goes_on (r ∷ rs) [] bytes (gate, rest, gate_is, size, same, more) all =
    absurd (gate_is (sym (head_same _ _ _ _ (sym all.1 ∙ same)).0))
goes_on (r ∷ rs) (s ∷ ss) bytes (g, x, gi, rz, e, more) (h, y, hi, sz, f, moar) =
    let both = same_front r s x y rz sz (head_same _ _ _ _ (sym e ∙ f)).1 in
    let on = goes_on rs ss x more (subst (Records Closed ss) (sym both.1) moar) in
    record {
      more = on.more;
      same = ap (λ (l : List ℕ). l ∷ ss) (sym both.0) ∙ ap (λ (l : List (List ℕ)). r ∷ l) on.same;
      records_are = (g, x, gi, rz, e, on.records_are);
    }

-- the same in the whole file
pub record FileGoesOn (o : ℕ) (rs hs : List (List ℕ)) (file : List ℕ) : Type 0 where
  pub more : List (List ℕ)
  pub same : hs ≡ rs ++ more
  pub parts : Parts (Records Closed more) o rs file

file_goes_on : (o p : ℕ) (rs hs : List (List ℕ)) (file : List ℕ) → Parts Anything o rs file
    → Stands p hs file → FileGoesOn o rs hs file
file_goes_on o p rs hs file a b =
    let rest = (same_header Anything Closed o p rs hs file a b.parts).1 in
    let on = goes_on rs hs a.rest a.records_are
    (subst (Records Closed hs) (sym rest) b.parts.records_are) in
    record {
      more = on.more;
      same = on.same;
      parts = record {
        gate = a.gate;
        rest = a.rest;
        is_open = a.is_open;
        in_range = a.in_range;
        header = a.header;
        records_are = on.records_are;
      };
    }

pub size-both : (rs ss : List (List ℕ)) → size_of (rs ++ ss) ≡ size_of rs + size_of ss
size-both [] ss = omega arith
size-both (r ∷ rs) ss = omega (arith, size-both rs ss)

-- what comes next is seen
closed_seen : (room : ℕ) (bytes rest : List ℕ) → 0 < room → bytes ≡ 0 ∷ rest
    → Closed (take room bytes)
closed_seen zero bytes rest few same = absurd (omega (arith, few))
closed_seen (suc room) bytes rest few same = (take room rest, ap (take (suc room)) same)

pub record_seen : (room gate : ℕ) (r bytes rest : List ℕ) → 5 + length r ≤ room → gate ≢ 0
    → IsRecord r → bytes ≡ gate ∷ (four (length r) ++ (r ++ rest)) → HasRecord r (take room bytes)
record_seen room gate r bytes rest fits is_open size same =
    let front = gate ∷ (four (length r) ++ r) in
    let long : length front ≡ 5 + length r = omega (arith, length-append (four (length r)) r) in
    let sum : room ≡ length front + (room - length front) = omega (arith, long, fits) in
    let split : bytes ≡ front ++ rest = same
    ∙ ap (λ (l : List ℕ). gate ∷ l) (sym (append_assoc (four (length r)) r rest)) in
    record {
      gate = gate;
      rest = take (room - length front) rest;
      is_open = is_open;
      is_record = size;
      same = ap (take room) split ∙ ap (λ (k : ℕ). take k (front ++ rest)) sum
          ∙ take-append-add front rest (room - length front)
          ∙ ap (λ (l : List ℕ). gate ∷ l)
          (append_assoc (four (length r)) r (take (room - length front) rest));
    }

-- what a longer list needs of the next step
next_of : (o : ℕ) (rs : List (List ℕ)) (at : ℕ) (file : List ℕ) (more : List (List ℕ))
    → at ≡ tail_of rs → tail_of (rs ++ more) < MAX_JOURNAL_BYTES
    → Parts (Records Closed more) o rs file
    → (Closed (seen_from at file) × (more ≡ [])) ⊎ ((r : List ℕ) × (after : List (List ℕ))
    × (more ≡ r ∷ after) × HasRecord r (seen_from at file))
next_of o rs at file [] place small p =
    let s = splits_file Closed o rs file p in
    inl (
      closed_seen (MAX_JOURNAL_BYTES - at) (drop at file) s.is.0 (omega (
        arith,
        place,
        small,
        size-both rs [],
      )) (at_place Closed o rs at file place s ∙ s.is.1),
      refl,
    )
next_of o rs at file (r ∷ after) place small p =
    let s = splits_file (Records Closed (r ∷ after)) o rs file p in
    inr (
      r,
      after,
      refl,
      record_seen (MAX_JOURNAL_BYTES - at) s.is.0 r
          (drop at file) s.is.1 (omega (arith, place, small, size-both rs (r ∷ after))) s.is.2
          s.is.3
          (at_place (Records Closed (r ∷ after)) o rs at file place s ∙ s.is.4),
    )

same_record : (r s x : List ℕ) → HasRecord r x → HasRecord s x → r ≡ s
same_record r s x a b =
    (same_front r s a.rest b.rest a.is_record b.is_record
    (head_same _ _ _ _ (sym a.same ∙ b.same)).1).0

module _ (legal : List (List ℕ) → List ℕ → Type 0) (o : ℕ) (rs : List (List ℕ)) (at : ℕ)
    (file : List ℕ) (w : Walks legal o rs at file) (within : at ≤ MAX_JOURNAL_BYTES) where
  -- nothing stands there
  pub stops : (Closed (seen_from at file) → ⊥)
      → ((r : List ℕ) → HasRecord r (seen_from at file) → ⊥) → StopsAt legal o at file
  stops not_closed no_record = record {
    history = rs;
    before = w;
    within = within;
    no_gate = not_closed;
    no_record = λ r h is_legal. no_record r h;
    none = λ p hs s l.
        let on = file_goes_on o p rs hs file w.parts s in
        ⊎_elim (λ c. not_closed c.0) (λ n. no_record n.0 n.3)
        (next_of o rs at file on.more w.place
        (subst (λ (h : List (List ℕ)). tail_of h < MAX_JOURNAL_BYTES) on.same s.small) on.parts);
  }

  -- a record stands there that isn't legal
  pub illegal_stops : (r : List ℕ) → HasRecord r (seen_from at file) → (legal rs r → ⊥)
      → StopsAt legal o at file
  illegal_stops r h illegal = record {
    history = rs;
    before = w;
    within = within;
    no_gate = λ c. h.is_open (head_same _ _ _ _ (sym h.same ∙ c.1)).0;
    no_record = λ s there is_legal.
        illegal (subst (legal rs) (same_record s r (seen_from at file) there h) is_legal);
    none = λ p hs s l.
        let on = file_goes_on o p rs hs file w.parts s in
        ⊎_elim (λ c. h.is_open (head_same _ _ _ _ (sym h.same ∙ c.0.1)).0)
        (λ n. illegal (subst (legal rs) (same_record n.0 r (seen_from at file) n.3 h)
        (l rs n.0 n.1 (on.same ∙ ap (λ (m : List (List ℕ)). rs ++ m) n.2))))
        (next_of o rs at file on.more w.place
        (subst (λ (h : List (List ℕ)). tail_of h < MAX_JOURNAL_BYTES) on.same s.small) on.parts);
  }

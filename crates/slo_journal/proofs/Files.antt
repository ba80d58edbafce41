-- Files of records: their parts, and that they stand for one list alone.
use Rattle.std.proofs.Common.{◌≡◌, ◌≢◌, inl, inr, ◌⊎◌, ⊎_elim, ℕ, ◌+◌, ◌-◌, ◌≤◌, ◌<◌, ◌^◌, min}
use Rattle.std.proofs.Common.{List, [], ◌∷◌, ◌++◌, length, take, drop, get_or, refl, sym, ap, ◌∙◌}
use Rattle.std.proofs.Common.{subst, arith, append_assoc, length-append, take-append-drop, w32}
use Rattle.std.proofs.Common.{codes, not, ◌==◌, true, false}
use Rattle.std.specs.Int.{to_be_bytes, from_be_bytes}
use Rattle.std.proofs.lemmas.Bool.{cases_eq}
use Rattle.std.proofs.lemmas.Bool.Decides.{nat_tests}
use Rattle.std.proofs.lemmas.List.{take_at, drop_at, append-nil}
use Rattle.std.proofs.lemmas.Nat.{from_be_bytes-to_be_bytes_4}
use Rattle.slo_journal.specs.File.{four, IsRecord, frame_of, Records, Parts, Closed, size_of}
use Rattle.slo_journal.specs.File.{tail_of, Stands, EitherGate, Staged, Opened, StandsInDoubt}
use Rattle.slo_journal.specs.File.{has_open_gate}
use Rattle.slo_limits.specs.declared.TheConstants.{MAX_JOURNAL_BYTES}

abbrev pub Ends : List ℕ → Type 0
Ends bytes = bytes ≡ []

-- the part before, and the part that is P
pub record Split (P : List ℕ → Type 0) (rs : List (List ℕ)) (bytes : List ℕ) : Type 0 where
  pub front : List ℕ
  pub rest : List ℕ
  pub split : bytes ≡ front ++ rest
  pub records_are : Records Ends rs front
  pub is : P rest

step : (gate : ℕ) (r front rest : List ℕ) → gate ∷ (four (length r) ++ (r ++ (front ++ rest)))
    ≡ (gate ∷ (four (length r) ++ (r ++ front))) ++ rest
step gate r front rest =
    ap (λ (l : List ℕ). gate ∷ (four (length r) ++ l)) (sym (append_assoc r front rest))
    ∙ ap (λ (l : List ℕ). gate ∷ l) (sym (append_assoc (four (length r)) (r ++ front) rest))

pub splits : (P : List ℕ → Type 0) (rs : List (List ℕ)) (bytes : List ℕ) → Records P rs bytes
    → Split P rs bytes
splits P [] bytes is = record {
  front = [];
  rest = bytes;
  split = refl;
  records_are = refl;
  is = is;
}
splits P (r ∷ rs) bytes (gate, rest, gate_is, size, same, more) =
    let s = splits P rs rest more in
    record {
      front = gate ∷ (four (length r) ++ (r ++ s.front));
      rest = s.rest;
      split = same ∙ ap (λ (l : List ℕ). gate ∷ (four (length r) ++ (r ++ l))) s.split
          ∙ step gate r s.front s.rest;
      records_are = (gate, s.front, gate_is, size, refl, s.records_are);
      is = s.is;
    }

pub joins : (Q : List ℕ → Type 0) (rs : List (List ℕ)) (front x : List ℕ) → Records Ends rs front
    → Q x → Records Q rs (front ++ x)
joins Q [] front x ends is = subst Q (sym (ap (λ (l : List ℕ). l ++ x) ends)) is
joins Q (r ∷ rs) front x (gate, rest, gate_is, size, same, more) is = (
  gate,
  rest ++ x,
  gate_is,
  size,
  ap (λ (l : List ℕ). l ++ x) same ∙ sym (step gate r rest x),
  joins Q rs rest x more is,
)

length-four : (n : ℕ) → length (four n) ≡ 4
length-four n = refl

pub length-front : (rs : List (List ℕ)) (front : List ℕ) → Records Ends rs front
    → length front ≡ size_of rs
length-front [] front ends = ap length ends
length-front (r ∷ rs) front (gate, rest, gate_is, size, same, more) =
    omega (
      arith,
      ap length same,
      length-append (four (length r)) (r ++ rest),
      length-append r rest,
      length-front rs rest more,
    )

pub size-append : (rs : List (List ℕ)) (r : List ℕ)
    → size_of (rs ++ r ∷ []) ≡ size_of rs + 5 + length r
size-append [] r = omega arith
size-append (x ∷ rs) r = omega (arith, size-append rs r)

-- records and then one more record are the longer list
pub one_more : (P : List ℕ → Type 0) (rs : List (List ℕ)) (r bytes : List ℕ)
    → Records (Records P (r ∷ [])) rs bytes → Records P (rs ++ r ∷ []) bytes
one_more P [] r bytes is = is
one_more P (x ∷ rs) r bytes (gate, rest, gate_is, size, same, more) =
    (gate, rest, gate_is, size, same, one_more P rs r rest more)

pub weaker : (P Q : List ℕ → Type 0) (rs : List (List ℕ)) (bytes : List ℕ)
    → ((x : List ℕ) → P x → Q x) → Records P rs bytes → Records Q rs bytes
weaker P Q [] bytes f is = f bytes is
weaker P Q (x ∷ rs) bytes f (gate, rest, gate_is, size, same, more) =
    (gate, rest, gate_is, size, same, weaker P Q rs rest f more)

-- the same for the whole file
pub record SplitFile (P : List ℕ → Type 0) (o : ℕ) (rs : List (List ℕ))
    (bytes : List ℕ) : Type 0 where
  pub front : List ℕ
  pub rest : List ℕ
  pub split : bytes ≡ front ++ rest
  pub are : Parts Ends o rs front
  pub is : P rest

header_step : (gate : ℕ) (o : ℕ) (front rest : List ℕ)
    → gate ∷ (codes "OSLOJRN1" ++ (four o ++ (front ++ rest)))
    ≡ (gate ∷ (codes "OSLOJRN1" ++ (four o ++ front))) ++ rest
header_step gate o front rest =
    ap (λ (l : List ℕ). gate ∷ (codes "OSLOJRN1" ++ l)) (sym (append_assoc (four o) front rest))
    ∙ ap (λ (l : List ℕ). gate ∷ l) (sym (append_assoc (codes "OSLOJRN1") (four o ++ front) rest))

pub splits_file : (P : List ℕ → Type 0) (o : ℕ) (rs : List (List ℕ)) (bytes : List ℕ)
    → Parts P o rs bytes → SplitFile P o rs bytes
splits_file P o rs bytes p =
    let s = splits P rs p.rest p.records_are in
    record {
      front = p.gate ∷ (codes "OSLOJRN1" ++ (four o ++ s.front));
      rest = s.rest;
      split = p.header ∙ ap (λ (l : List ℕ). p.gate ∷ (codes "OSLOJRN1" ++ (four o ++ l))) s.split
          ∙ header_step p.gate o s.front s.rest;
      are = record {
        gate = p.gate;
        rest = s.front;
        is_open = p.is_open;
        in_range = p.in_range;
        header = refl;
        records_are = s.records_are;
      };
      is = s.is;
    }

pub joins_file : (Q : List ℕ → Type 0) (o : ℕ) (rs : List (List ℕ)) (front x : List ℕ)
    → Parts Ends o rs front → Q x → Parts Q o rs (front ++ x)
joins_file Q o rs front x p is = record {
  gate = p.gate;
  rest = p.rest ++ x;
  is_open = p.is_open;
  in_range = p.in_range;
  header = ap (λ (l : List ℕ). l ++ x) p.header ∙ sym (header_step p.gate o p.rest x);
  records_are = joins Q rs p.rest x p.records_are is;
}

pub length-file : (o : ℕ) (rs : List (List ℕ)) (front : List ℕ) → Parts Ends o rs front
    → length front ≡ tail_of rs
length-file o rs front p = omega (
  arith,
  ap length p.header,
  length-append (codes "OSLOJRN1") (four o ++ p.rest),
  length-append (four o) p.rest,
  length-front rs p.rest p.records_are,
)

pub weaker_file : (P Q : List ℕ → Type 0) (o : ℕ) (rs : List (List ℕ)) (bytes : List ℕ)
    → ((x : List ℕ) → P x → Q x) → Parts P o rs bytes → Parts Q o rs bytes
weaker_file P Q o rs bytes f p = record {
  gate = p.gate;
  rest = p.rest;
  is_open = p.is_open;
  in_range = p.in_range;
  header = p.header;
  records_are = weaker P Q rs p.rest f p.records_are;
}

pub one_more_file : (P : List ℕ → Type 0) (o : ℕ) (rs : List (List ℕ)) (r bytes : List ℕ)
    → Parts (Records P (r ∷ [])) o rs bytes → Parts P o (rs ++ r ∷ []) bytes
one_more_file P o rs r bytes p = record {
  gate = p.gate;
  rest = p.rest;
  is_open = p.is_open;
  in_range = p.in_range;
  header = p.header;
  records_are = one_more P rs r p.rest p.records_are;
}

frame_step : (r rest : List ℕ) → frame_of r ++ rest ≡ four (length r) ++ (r ++ 0 ∷ rest)
frame_step r rest = append_assoc (four (length r)) (r ++ 0 ∷ []) rest
    ∙ ap (λ (l : List ℕ). four (length r) ++ l) (append_assoc r (0 ∷ []) rest)

-- with its gate closed, it isn't there
pub shut_gate : (o : ℕ) (rs : List (List ℕ)) (r bytes : List ℕ) → tail_of rs < MAX_JOURNAL_BYTES
    → Parts (Staged r) o rs bytes → Stands o rs bytes
shut_gate o rs r bytes small p = record {
  small = small;
  parts = weaker_file (Staged r) Closed o rs bytes (λ x s. (frame_of r ++ s.0, s.1)) p;
}

not_zero : (n : ℕ) → not (n == 0) ≡ true → n ≢ 0
not_zero n t = grind (arith, nat_tests)

is_zero : (n : ℕ) → not (n == 0) ≡ false → n ≡ 0
is_zero n t = grind (arith, nat_tests)

-- with its gate open, it is
pub opened_gate : (o : ℕ) (rs : List (List ℕ)) (r bytes : List ℕ)
    → tail_of rs + 5 + length r < MAX_JOURNAL_BYTES → IsRecord r
    → (s : SplitFile (EitherGate r) o rs bytes)
    → s.is.0 ≢ 0 → Stands o (rs ++ r ∷ []) bytes
opened_gate o rs r bytes small size s is_open =
    let more : Records Closed (r ∷ []) s.rest = (
      s.is.0,
      0 ∷ s.is.1,
      is_open,
      size,
      s.is.2 ∙ ap (λ (l : List ℕ). s.is.0 ∷ l) (frame_step r s.is.1),
      (s.is.1, refl),
    ) in
    record {
      small = omega (arith, small, size-append rs r);
      parts = one_more_file Closed o rs r bytes (subst (Parts (Records Closed (r ∷ [])) o rs)
          (sym s.split) (joins_file (Records Closed (r ∷ [])) o rs s.front s.rest s.are more));
    }

closed_gate : (o : ℕ) (rs : List (List ℕ)) (r bytes : List ℕ)
    → tail_of rs + 5 + length r < MAX_JOURNAL_BYTES
    → (s : SplitFile (EitherGate r) o rs bytes) → s.is.0 ≡ 0 → Stands o rs bytes
closed_gate o rs r bytes small s shut = record {
  small = omega (arith, small);
  parts = subst (Parts Closed o rs) (sym s.split) (joins_file Closed o rs s.front s.rest s.are
      (frame_of r ++ s.is.1, s.is.2 ∙ ap (λ (g : ℕ). g ∷ (frame_of r ++ s.is.1)) shut));
}

-- by its gate's byte it is there or not
pub by_gate : (o : ℕ) (rs : List (List ℕ)) (r bytes : List ℕ) → StandsInDoubt o rs r bytes
    → Stands o rs bytes ⊎ Stands o (rs ++ r ∷ []) bytes
by_gate o rs r bytes d =
    let s = splits_file (EitherGate r) o rs bytes d.parts in
    ⊎_elim
    (λ (shut : s.is.0 ≡ 0). inl (closed_gate o rs r bytes d.small s shut))
    (λ (is_open : s.is.0 ≢ 0). inr (opened_gate o rs r bytes d.small d.is_record s is_open))
    (cases_eq s.is.0 0)

at_gate : (o : ℕ) (rs : List (List ℕ)) (r bytes : List ℕ) (tail : ℕ)
    → tail ≡ tail_of rs → (s : SplitFile (EitherGate r) o rs bytes)
    → has_open_gate (drop tail bytes) ≡ not (s.is.0 == 0)
at_gate o rs r bytes tail is s = ap (λ (l : List ℕ). has_open_gate (drop tail l)) (s.split
    ∙ ap (λ (l : List ℕ). s.front ++ l) s.is.2) ∙ ap has_open_gate (drop_at s.front
    (s.is.0 ∷ (frame_of r ++ s.is.1)) tail (length-file o rs s.front s.are ∙ sym is))

pub read_open : (o : ℕ) (rs : List (List ℕ)) (r bytes : List ℕ) (tail : ℕ)
    → tail ≡ tail_of rs → StandsInDoubt o rs r bytes → has_open_gate (drop tail bytes) ≡ true
    → Stands o (rs ++ r ∷ []) bytes
read_open o rs r bytes tail is d read =
    let s = splits_file (EitherGate r) o rs bytes d.parts in
    let t : not (s.is.0 == 0) ≡ true = sym (at_gate o rs r bytes tail is s) ∙ read in
    opened_gate o rs r bytes d.small d.is_record s (not_zero s.is.0 t)

pub read_shut : (o : ℕ) (rs : List (List ℕ)) (r bytes : List ℕ) (tail : ℕ) → tail ≡ tail_of rs
    → StandsInDoubt o rs r bytes → has_open_gate (drop tail bytes) ≡ false → Stands o rs bytes
read_shut o rs r bytes tail is d read =
    let s = splits_file (EitherGate r) o rs bytes d.parts in
    let t : not (s.is.0 == 0) ≡ false = sym (at_gate o rs r bytes tail is s) ∙ read in
    closed_gate o rs r bytes d.small s (is_zero s.is.0 t)

pub opened_stands : (o : ℕ) (rs : List (List ℕ)) (r bytes : List ℕ)
    → tail_of rs + 5 + length r < MAX_JOURNAL_BYTES → IsRecord r → Parts (Opened r) o rs bytes
    → Stands o (rs ++ r ∷ []) bytes
opened_stands o rs r bytes small size p =
    let s = splits_file (Opened r) o rs bytes p in
    opened_gate o rs r bytes small size (record {
      front = s.front;
      rest = s.rest;
      split = s.split;
      are = s.are;
      is = (1, s.is.0, s.is.1);
    }) (λ e. absurd (cc e))

pub four_same : (m n : ℕ) (xs ys : List ℕ) → m < 2 ^ 32 → n < 2 ^ 32 → four m ++ xs ≡ four n ++ ys
    → (m ≡ n) × (xs ≡ ys)
four_same m n xs ys fm fn e =
    let t : four m ≡ four n = sym (take_at (four m) xs 4 refl) ∙ ap (take 4) e
    ∙ take_at (four n) ys 4 refl in
    let d : xs ≡ ys = sym (drop_at (four m) xs 4 refl) ∙ ap (drop 4) e
    ∙ drop_at (four n) ys 4 refl in (
      sym (from_be_bytes-to_be_bytes_4 m fm) ∙ ap (from_be_bytes w32) t
          ∙ from_be_bytes-to_be_bytes_4 n fn,
      d,
    )

pub head_same : (a b : ℕ) (xs ys : List ℕ) → a ∷ xs ≡ b ∷ ys → (a ≡ b) × (xs ≡ ys)
head_same a b xs ys e = (ap (λ (l : List ℕ). get_or l 0 0) e, ap (drop 1) e)

-- bytes hold one record behind a gate
pub same_front : (r s xs ys : List ℕ) → IsRecord r → IsRecord s
    → four (length r) ++ (r ++ xs) ≡ four (length s) ++ (s ++ ys) → (r ≡ s) × (xs ≡ ys)
same_front r s xs ys a b e =
    let both = four_same (length r) (length s) (r ++ xs) (s ++ ys) (omega (arith, a.most))
    (omega (arith, b.most)) e in (
      sym (take_at r xs (length r) refl) ∙ ap (take (length r)) both.1
          ∙ take_at s ys (length r) (sym both.0),
      sym (drop_at r xs (length r) refl) ∙ ap (drop (length r)) both.1
          ∙ drop_at s ys (length r) (sym both.0),
    )

-- bytes hold one list of records, and then a closed gate
one_list : (rs ss : List (List ℕ)) (bytes : List ℕ) → Records Closed rs bytes
    → Records Closed ss bytes → rs ≡ ss
one_list [] [] bytes a b = refl
one_list [] (s ∷ ss) bytes a (gate, rest, gate_is, size, same, more) =
    absurd (gate_is (sym (head_same _ _ _ _ (sym a.1 ∙ same)).0))
one_list (r ∷ rs) [] bytes (gate, rest, gate_is, size, same, more) b =
    absurd (gate_is (sym (head_same _ _ _ _ (sym b.1 ∙ same)).0))
one_list (r ∷ rs) (s ∷ ss) bytes (g, x, gi, rz, e, more) (h, y, hi, sz, f, moar) =
    let both = same_front r s x y rz sz (head_same _ _ _ _ (sym e ∙ f)).1 in
    ap (λ (l : List ℕ). l ∷ rs) both.0 ∙ ap (λ (l : List (List ℕ)). s ∷ l)
    (one_list rs ss x more (subst (Records Closed ss) (sym both.1) moar))

-- a file has one origin, and the same bytes behind it
pub same_header : (P Q : List ℕ → Type 0) (o p : ℕ) (rs ss : List (List ℕ)) (bytes : List ℕ)
    → (a : Parts P o rs bytes) → (b : Parts Q p ss bytes) → (o ≡ p) × (a.rest ≡ b.rest)
same_header P Q o p rs ss bytes a b =
    let e = (head_same _ _ _ _ (sym a.header ∙ b.header)).1 in
    let f = sym (drop_at (codes "OSLOJRN1") (four o ++ a.rest) 8 refl) ∙ ap (drop 8) e
    ∙ drop_at (codes "OSLOJRN1") (four p ++ b.rest) 8 refl in
    four_same o p a.rest b.rest (omega (arith, a.in_range)) (omega (arith, b.in_range)) f

-- bytes stand for one origin and one list at most
pub one_file : (o p : ℕ) (rs ss : List (List ℕ)) (bytes : List ℕ) → Stands o rs bytes
    → Stands p ss bytes → (o ≡ p) × (rs ≡ ss)
one_file o p rs ss bytes a b =
    let both = same_header Closed Closed o p rs ss bytes a.parts b.parts in (
      both.0,
      one_list rs ss a.parts.rest a.parts.records_are
          (subst (Records Closed ss) (sym both.1) b.parts.records_are),
    )

-- Places stand for the states of `csv`'s machine.
use Rattle.std.proofs.Common.{◌≡◌, ◌≢◌, ℕ, List, [], ◌∷◌, Bool, true, false, refl, arith, ◌∙◌, ap}
use Rattle.std.proofs.Common.{if◌then◌else◌, ◌==◌, ◌&&◌, fold, ◌++◌, ◌+◌, ◌<◌, take, length, get_or}
use Rattle.std.proofs.Common.{zero, suc, subst, ◌≤◌, ◌-◌}
use Rattle.std.proofs.lemmas.List.{take_more}
use Rattle.std.proofs.lemmas.List.Sums.{fold-append}
use Rattle.csv.specs.Machine.{step}
use Rattle.csv.specs.Reading.{default_config, is_bom, strip_bom}
use Rattle.csv.specs.declared.parser.State.{State}
use Rattle.csv.specs.declared.parser.State.TheVariants as st
use Rattle.csv_records.specs.Places.{HasNoQuote, IsCut, ends_line}
use Rattle.csv_records.specs.Places.{in_quotes, next_place, place_after}
use Rattle.csv_records.specs.declared.places.Place.{Place}
use Rattle.csv_records.specs.declared.places.Place.TheVariants as place

-- the state of `csv`'s machine after one byte, and after these bytes
abbrev pub next_state : State → ℕ → State
next_state s c = (step default_config s c).0

abbrev pub state_after : State → List ℕ → State
state_after s bytes = fold next_state s bytes

-- all that quotes and line feeds ask of a state
abbrev pub place_of : State → Place
place_of st.StartRecord = place.FieldStart
place_of st.AfterCr = place.FieldStart
place_of st.StartField = place.FieldStart
place_of st.InField = place.Plain
place_of st.InQuoted = place.Quoted
place_of st.AfterQuote = place.QuoteEnd
place_of st.InEscape = place.Quoted
place_of st.InComment = place.Plain

-- with the usual setting no state is one of an escape or a comment
abbrev pub is_usual : State → Bool
is_usual st.InEscape = false
is_usual st.InComment = false
is_usual _ = true

-- a state is one that this place stands for
pub record IsAt (s : State) (at : Place) : Type 0 where
  pub usual : is_usual s ≡ true
  pub place : place_of s ≡ at

usual_next : (s : State) (c : ℕ) → is_usual s ≡ true → is_usual (next_state s c) ≡ true
usual_next s c e = grind arith

place_next : (s : State) (c : ℕ) → is_usual s ≡ true
    → place_of (next_state s c) ≡ next_place (place_of s) c
place_next s c e = grind arith

-- one more byte, and more of them
pub at_next : (s : State) (at : Place) (c : ℕ) → IsAt s at → IsAt (next_state s c) (next_place at c)
at_next s at c h = record {
  usual = usual_next s c h.usual;
  place = place_next s c h.usual ∙ ap (λ (p : Place). next_place p c) h.place;
}

pub at_after : (s : State) (at : Place) (bytes : List ℕ) → IsAt s at
    → IsAt (state_after s bytes) (place_after at bytes)
at_after s at [] h = h
at_after s at (c ∷ bytes) h = at_after (next_state s c) (next_place at c) bytes (at_next s at c h)

pub feed_ends : (s : State) (at : Place) → IsAt s at → in_quotes at ≡ false
    → next_state s 10 ≡ st.StartRecord
feed_ends s at h outside = by s h.usual (rw h.place outside)
  where
    by : (s : State) → is_usual s ≡ true → in_quotes (place_of s) ≡ false
        → next_state s 10 ≡ st.StartRecord
    by s u q = grind arith

-- The first bytes of a text.
pub at_start : IsAt st.StartRecord place.FieldStart
at_start = record { usual = refl; place = refl }

pub one_byte : (a : ℕ) → (a == 0xEF) ≡ false
    → next_place place.TextStart a ≡ next_place place.FieldStart a
one_byte a e = rw e refl

-- a text of one byte, of two, and of three that are no byte order mark
pub at_one : (a : ℕ) → (a == 0xEF) ≡ false
    → IsAt (next_state st.StartRecord a) (next_place place.TextStart a)
at_one a e = rw (one_byte a e) (at_next st.StartRecord place.FieldStart a at_start)

second : (a b : ℕ) → (a == 0xEF) ≡ true → (b == 0xBB) ≡ false
    → IsAt (next_state (next_state st.StartRecord a) b)
    (next_place (next_place place.TextStart a) b)
second a b e f =
    let is : a ≡ 0xEF = grind (arith, e) in
    rw (is, f) (at_next st.InField place.Plain b (record { usual = refl; place = refl }))

pub at_two : (a b : ℕ) → ((a == 0xEF) && (b == 0xBB)) ≡ false
    → IsAt (next_state (next_state st.StartRecord a) b)
    (next_place (next_place place.TextStart a) b)
at_two a b e = by (a == 0xEF) refl e
  where
    by : (t : Bool) → (a == 0xEF) ≡ t → (t && (b == 0xBB)) ≡ false
        → IsAt (next_state (next_state st.StartRecord a) b)
        (next_place (next_place place.TextStart a) b)
    by false is f = at_next (next_state st.StartRecord a) (next_place place.TextStart a) b
        (at_one a is)
    by true is f = second a b is f

third : (a b c : ℕ) → (a == 0xEF) ≡ true → (b == 0xBB) ≡ true → (c == 0xBF) ≡ false
    → IsAt (next_state (next_state (next_state st.StartRecord a) b) c)
    (next_place (next_place (next_place place.TextStart a) b) c)
third a b c e f g =
    let is : a ≡ 0xEF = grind (arith, e) in
    let and : b ≡ 0xBB = grind (arith, f) in
    rw (is, and, g) (at_next st.InField place.Plain c (record { usual = refl; place = refl }))

pub at_three : (a b c : ℕ) → is_bom a b c ≡ false
    → IsAt (next_state (next_state (next_state st.StartRecord a) b) c)
    (next_place (next_place (next_place place.TextStart a) b) c)
at_three a b c e = by ((a == 0xEF) && (b == 0xBB)) refl
  where
    by : (t : Bool) → ((a == 0xEF) && (b == 0xBB)) ≡ t
        → IsAt (next_state (next_state (next_state st.StartRecord a) b) c)
        (next_place (next_place (next_place place.TextStart a) b) c)
    by false is = at_next (next_state (next_state st.StartRecord a) b)
        (next_place (next_place place.TextStart a) b) c (at_two a b is)
    by true is = third a b c (grind (arith, is)) (grind (arith, is)) (grind (arith, is, e))

pub mark_place : (a b c : ℕ) → is_bom a b c ≡ true
    → next_place (next_place (next_place place.TextStart a) b) c ≡ place.FieldStart
mark_place a b c e =
    let first : a ≡ 0xEF = grind (arith, e) in
    let next : b ≡ 0xBB = grind (arith, e) in
    let last : c ≡ 0xBF = grind (arith, e) in
    rw (first, next, last) refl

-- Where a line feed stands outside quotes, the text that it ends leaves the machine between two
-- records.
pub ends : (text : List ℕ) → in_quotes (place_after place.TextStart text) ≡ false
    → state_after st.StartRecord (strip_bom (text ++ 10 ∷ [])) ≡ st.StartRecord
unfolding strip_bom
ends [] outside = refl
ends (a ∷ []) outside = by (a == 0xEF) refl
  where
    by : (t : Bool) → (a == 0xEF) ≡ t → next_state (next_state st.StartRecord a) 10 ≡ st.StartRecord
    by false is = feed_ends (next_state st.StartRecord a) (next_place place.TextStart a)
        (at_one a is) outside
    by true is = let mark : a ≡ 0xEF = grind (arith, is) in rw mark refl
ends (a ∷ b ∷ []) outside = rw (no_bom a b) (by ((a == 0xEF) && (b == 0xBB)) refl)
  where
    no_bom : (a b : ℕ) → is_bom a b 10 ≡ false
    no_bom a b = grind arith

    by : (t : Bool) → ((a == 0xEF) && (b == 0xBB)) ≡ t
        → next_state (next_state (next_state st.StartRecord a) b) 10 ≡ st.StartRecord
    by false is = feed_ends (next_state (next_state st.StartRecord a) b)
        (next_place (next_place place.TextStart a) b) (at_two a b is) outside
    by true is =
        let first : a ≡ 0xEF = grind (arith, is) in
        let next : b ≡ 0xBB = grind (arith, is) in
        rw (first, next) refl
ends (a ∷ b ∷ c ∷ rest) outside = by (is_bom a b c) refl
  where
    closed : (s : State) (at : Place) → IsAt s at → in_quotes (place_after at rest) ≡ false
        → state_after s (rest ++ 10 ∷ []) ≡ st.StartRecord
    closed s at h q = fold-append next_state s rest (10 ∷ []) ∙ feed_ends (state_after s rest)
        (place_after at rest) (at_after s at rest h) q

    by : (t : Bool) → is_bom a b c ≡ t → state_after st.StartRecord
        (if t then rest ++ 10 ∷ [] else a ∷ b ∷ c ∷ (rest ++ 10 ∷ [])) ≡ st.StartRecord
    by true is = closed st.StartRecord place.FieldStart at_start
        (subst (λ (p : Place). in_quotes (place_after p rest) ≡ false) (mark_place a b c is)
        outside)
    by false is = closed (next_state (next_state (next_state st.StartRecord a) b) c)
        (next_place (next_place (next_place place.TextStart a) b) c) (at_three a b c is) outside

-- A byte order mark is one whatever comes after a line feed.
pub strip_more : (text more : List ℕ) → strip_bom ((text ++ 10 ∷ []) ++ more)
    ≡ strip_bom (text ++ 10 ∷ []) ++ more
unfolding strip_bom
strip_more [] [] = refl
strip_more [] (x ∷ []) = refl
strip_more [] (x ∷ y ∷ more) = refl
strip_more (a ∷ []) [] = refl
strip_more (a ∷ []) (x ∷ more) = rw (not_second a x) refl
  where
    not_second : (a x : ℕ) → is_bom a 10 x ≡ false
    not_second a x = grind arith
strip_more (a ∷ b ∷ []) more = rw (not_third a b) refl
  where
    not_third : (a b : ℕ) → is_bom a b 10 ≡ false
    not_third a b = grind arith
strip_more (a ∷ b ∷ c ∷ rest) more = by (is_bom a b c)
  where
    by : (t : Bool) → (if t then (rest ++ 10 ∷ []) ++ more else a ∷ b ∷ c
        ∷ ((rest ++ 10 ∷ []) ++ more))
        ≡ (if t then rest ++ 10 ∷ [] else a ∷ b ∷ c ∷ (rest ++ 10 ∷ [])) ++ more
    by true = refl
    by false = refl

-- One byte after the other.
pub place_more : (from : Place) (bytes : List ℕ) (i : ℕ) → i < length bytes
    → place_after from (take (i + 1) bytes)
    ≡ next_place (place_after from (take i bytes)) (get_or bytes i 0)
place_more from bytes i within =
    ap (place_after from) (take_more bytes i 0 within) ∙ fold-append next_place from (take i bytes)
    (get_or bytes i 0 ∷ [])

-- Behind a line feed outside quotes is a cut.
pub cut_at : (from : Place) (bytes : List ℕ) (i : ℕ) → get_or bytes i 0 ≡ 10
    → in_quotes (place_after from (take i bytes)) ≡ false → IsCut from bytes (i + 1)
cut_at from bytes i is outside =
    let back : i ≡ i + 1 - 1 = omega arith in
    record {
      feed = subst (λ (n : ℕ). get_or bytes n 0 ≡ 10) back is;
      outside = subst (λ (n : ℕ). in_quotes (place_after from (take n bytes)) ≡ false) back outside;
    }

pub cut_more : (from : Place) (bytes : List ℕ) (i : ℕ) → i < length bytes
    → ends_line (place_after from (take i bytes)) (get_or bytes i 0) ≡ true
    → IsCut from bytes (i + 1)
cut_more from bytes i within e =
    let both = by (place_after from (take i bytes)) (get_or bytes i 0) e in
    cut_at from bytes i both.0 both.1
  where
    by : (at : Place) (c : ℕ) → ends_line at c ≡ true → (c ≡ 10) × (in_quotes at ≡ false)
    by at c e = grind arith

-- after bytes that have no quote, no quote is open
pub plain_upto : (from : Place) (bytes : List ℕ) (i : ℕ) → i ≤ length bytes → in_quotes from ≡ false
    → HasNoQuote bytes
    → in_quotes (place_after from (take i bytes)) ≡ false
plain_upto from bytes zero within outside plain = outside
plain_upto from bytes (suc i) within outside plain =
    let w : i < length bytes = omega arith in
    let one : suc i ≡ i + 1 = omega arith in
    rw (one, place_more from bytes i w) (by (place_after from (take i bytes)) (get_or bytes i 0)
    (plain_upto from bytes i (omega arith) outside plain) (plain i w))
  where
    by : (at : Place) (c : ℕ) → in_quotes at ≡ false → c ≢ 34 → in_quotes (next_place at c) ≡ false
    by at c outside other = grind arith

-- A quoted scalar byte by byte is the quoted scalar.
use Rattle.std.proofs.Common.{◌≡◌, ℕ, ◌+◌, ◌<◌, Bool, true, false, List, [], ◌∷◌, ◌++◌, Option}
use Rattle.std.proofs.Common.{Some, None, cond, length, drop, get_or, option_map, refl, ap, ◌∙◌}
use Rattle.std.proofs.Common.{append_assoc, append-nil, add-one, add-zero, arith, drop-cons}
use Rattle.std.proofs.Common.{get_or-drop, eqb}
use Rattle.std.specs.List.{slice_index}
use Rattle.yaml_lines.specs.declared.quoted.Step.{Step}
use Rattle.yaml_lines.specs.declared.quoted.Step.TheVariants as steps
use Rattle.yaml_terms.specs.Flow.{Flow, flow, flow_step}
use Rattle.yaml_terms.specs.Quoted.{Quoted, quote_end, with_byte, with_escape, escaped_byte}
use Rattle.yaml_terms.specs.Quoted.{single}
use Rattle.yaml_terms.specs.Quoted.{double, quoted}
use Rattle.yaml_lines.specs.Scan.{Scan, scan_start, step_of, longer, inside, next_scan, scan}
use Rattle.yaml_lines.specs.Scan.{scan_end}
use Rattle.yaml_lines.specs.declared.quoted.Place.TheVariants as places

-- a scalar's beginning and its rest
abbrev joined : Quoted → Quoted → Quoted
joined q x = record {
  text = q.text ++ x.text;
  length = q.length + x.length;
  bad = cond x.bad true q.bad;
}

ended_stays : (quote : ℕ) (q : Quoted) (cs : List ℕ) → scan quote
    (record { place = places.Ended; quoted = q }) cs ≡ record { place = places.Ended; quoted = q }
ended_stays quote q [] = refl
ended_stays quote q (c ∷ cs) = ended_stays quote q cs

abbrev quoted_with : List ℕ → ℕ → Bool → Option Quoted
quoted_with t n b = Some (record { text = t; length = n; bad = b })

quoted_same : (t u : List ℕ) (n m : ℕ) (b : Bool) → t ≡ u → n ≡ m
    → quoted_with t n b ≡ quoted_with u m b
quoted_same t u n m b e f = rw (e, f) refl

one_more : (q : Quoted) (c : ℕ) (o : Option Quoted) → option_map (joined (longer q (c ∷ []) q.bad))
    o ≡ option_map (joined q) (option_map (with_byte c 1) o)
one_more q c None = refl
one_more q c (Some x) =
    quoted_same _ _ _ _ (cond x.bad true q.bad) (append_assoc q.text (c ∷ []) x.text) (omega arith)

two_more : (q : Quoted) (c : ℕ) (o : Option Quoted)
    → option_map (joined (longer (longer q (c ∷ []) q.bad) [] q.bad)) o
    ≡ option_map (joined q) (option_map (with_byte c 2) o)
two_more q c None = refl
two_more q c (Some x) =
    quoted_same _ _ _ _ (cond x.bad true q.bad) (simp (append-nil, append_assoc)) (omega arith)

bad_more : (q : Quoted) (o : Option Quoted)
    → option_map (joined (longer (longer q [] true) [] true)) o
    ≡ option_map (joined q) (option_map (with_escape None) o)
bad_more q None = refl
bad_more q (Some x) = by_bad x.bad
  where
    by_bad : (b : Bool) → option_map (joined (longer (longer q [] true) [] true)) (Some
        (record { text = x.text; length = x.length; bad = b })) ≡ option_map (joined q) (option_map
        (with_escape None) (Some (record { text = x.text; length = x.length; bad = b })))
    by_bad true = quoted_same _ _ _ _ true (simp append-nil) (omega arith)
    by_bad false = quoted_same _ _ _ _ true (simp append-nil) (omega arith)

ends_here : (quote : ℕ) (q : Quoted) (cs : List ℕ)
    → scan_end (scan quote (record { place = places.Ended; quoted = longer q [] q.bad }) cs)
    ≡ option_map (joined q) (Some quote_end)
ends_here quote q cs = ap scan_end (ended_stays quote (longer q [] q.bad) cs)

from_single : (q : Quoted) (cs : List ℕ) → scan_end
    (scan 39 (record { place = places.Inside; quoted = q }) cs) ≡ option_map (joined q) (single cs)
from_single q [] = refl
from_single q (c ∷ []) =
    elim (eqb c 39) as (λ b. scan_end (inside q (cond b (steps.Stop) (steps.One c)))
    ≡ option_map (joined q) (cond b (Some quote_end) None)) [ true ↦ refl | false ↦ refl ]
from_single q (c ∷ d ∷ cs) =
    by_byte (eqb c 39) (eqb d 39) (from_single (longer (longer q (39 ∷ []) q.bad) [] q.bad) cs)
    (from_single (longer q (c ∷ []) q.bad) (d ∷ cs))
  where
    by_byte : (b e : Bool) → scan_end (scan 39 (record {
      place = places.Inside;
      quoted = longer (longer q (39 ∷ []) q.bad) [] q.bad;
    }) cs)
        ≡ option_map (joined (longer (longer q (39 ∷ []) q.bad) [] q.bad)) (single cs)
        → scan_end (scan 39 (record { place = places.Inside; quoted = longer q (c ∷ []) q.bad })
        (d ∷ cs)) ≡ option_map (joined (longer q (c ∷ []) q.bad)) (single (d ∷ cs))
        → scan_end (scan 39 (inside q
        (cond b (cond e (steps.Pair (Some 39)) steps.Stop) (steps.One c))) (d ∷ cs))
        ≡ option_map (joined q) (cond b (cond e (option_map (with_byte 39 2) (single cs))
        (Some quote_end)) (option_map (with_byte c 1) (single (d ∷ cs))))
    by_byte true true two one = two ∙ two_more q 39 (single cs)
    by_byte true false two one = ends_here 39 q (d ∷ cs)
    by_byte false e two one = one ∙ one_more q c (single (d ∷ cs))

from_double : (q : Quoted) (cs : List ℕ) → scan_end
    (scan 34 (record { place = places.Inside; quoted = q }) cs) ≡ option_map (joined q) (double cs)
from_double q [] = refl
from_double q (c ∷ []) = by_byte (eqb c 34) (eqb c 92)
  where
    by_byte : (b e : Bool)
        → scan_end (inside q (cond b steps.Stop (cond e (steps.Pair None) (steps.One c))))
        ≡ option_map (joined q) (cond b (Some quote_end) None)
    by_byte true e = refl
    by_byte false true = refl
    by_byte false false = refl
from_double q (c ∷ d ∷ cs) =
    by_byte (eqb c 34) (eqb c 92) (escaped_byte d)
    (λ x. from_double (longer (longer q (x ∷ []) q.bad) [] q.bad) cs) (from_double
    (longer (longer q [] true) [] true) cs) (from_double (longer q (c ∷ []) q.bad) (d ∷ cs))
  where
    by_byte : (b e : Bool) (o : Option ℕ) → ((x : ℕ) → scan_end (scan 34
        (record { place = places.Inside; quoted = longer (longer q (x ∷ []) q.bad) [] q.bad }) cs)
        ≡ option_map (joined (longer (longer q (x ∷ []) q.bad) [] q.bad)) (double cs))
        → scan_end (scan 34 (record {
          place = places.Inside;
          quoted = longer (longer q [] true) [] true;
        }) cs)
        ≡ option_map (joined (longer (longer q [] true) [] true)) (double cs)
        → scan_end (scan 34 (record { place = places.Inside; quoted = longer q (c ∷ []) q.bad })
        (d ∷ cs)) ≡ option_map (joined (longer q (c ∷ []) q.bad)) (double (d ∷ cs))
        → scan_end
        (scan 34 (inside q (cond b steps.Stop (cond e (steps.Pair o) (steps.One c)))) (d ∷ cs))
        ≡ option_map (joined q) (cond b (Some quote_end) (cond e (option_map (with_escape o)
        (double cs)) (option_map (with_byte c 1) (double (d ∷ cs)))))
    by_byte true e o two bad one = ends_here 34 q (d ∷ cs)
    by_byte false true (Some x) two bad one = two x ∙ two_more q x (double cs)
    by_byte false true None two bad one = bad ∙ bad_more q (double cs)
    by_byte false false o two bad one = one ∙ one_more q c (double (d ∷ cs))

from_nothing : (o : Option Quoted)
    → option_map (joined (record { text = []; length = 0; bad = false })) o ≡ o
from_nothing None = refl
from_nothing (Some x) = by_bad x.bad
  where
    by_bad : (b : Bool) → quoted_with ([] ++ x.text) (0 + x.length) (cond b true false)
        ≡ quoted_with x.text x.length b
    by_bad true = quoted_same _ _ _ _ true refl (omega arith)
    by_bad false = quoted_same _ _ _ _ false refl (omega arith)

step_alike : (p q byte next : ℕ) → eqb p 39 ≡ eqb q 39 → step_of p byte next ≡ step_of q byte next
step_alike p q byte next e = rw e refl

-- all that counts of the quote is whether it is a single one
scan_alike : (p q : ℕ) → eqb p 39 ≡ eqb q 39 → (s : Scan) (cs : List ℕ) → scan p s cs ≡ scan q s cs
scan_alike p q e s [] = refl
scan_alike p q e s (c ∷ cs) = ap (λ (step : Step). scan p (next_scan s.place s.quoted step) cs)
    (step_alike p q c (slice_index cs 0) e)
    ∙ scan_alike p q e (next_scan s.place s.quoted (step_of q c (slice_index cs 0))) cs

pub scan_quoted : (quote : ℕ) (cs : List ℕ) → scan_end (scan quote scan_start cs) ≡ quoted quote cs
scan_quoted quote cs = by_quote (eqb quote 39) refl
  where
    by_quote : (b : Bool) → eqb quote 39 ≡ b
        → scan_end (scan quote scan_start cs) ≡ cond b (single cs) (double cs)
    by_quote true e = ap scan_end (scan_alike quote 39 e scan_start cs)
        ∙ from_single (record { text = []; length = 0; bad = false }) cs ∙ from_nothing (single cs)
    by_quote false e = ap scan_end (scan_alike quote 34 e scan_start cs)
        ∙ from_double (record { text = []; length = 0; bad = false }) cs ∙ from_nothing (double cs)

-- one byte of a list, and those behind it
pub step_at : (xs : List ℕ) (i : ℕ) → i < length xs → drop i xs ≡ get_or xs i 0 ∷ drop (i + 1) xs
step_at xs i h = rw (add-one, drop-cons xs i 0) refl

pub scan_more : (quote : ℕ) (s : Scan) (bytes : List ℕ) (at : ℕ) → at < length bytes
    → scan quote s (drop at bytes) ≡ scan quote (next_scan s.place s.quoted
    (step_of quote (get_or bytes at 0) (get_or bytes (at + 1) 0))) (drop (at + 1) bytes)
scan_more quote s bytes at h = ap (scan quote s) (step_at bytes at h)
    ∙ ap (λ (next : ℕ). scan quote
    (next_scan s.place s.quoted (step_of quote (get_or bytes at 0) next)) (drop (at + 1) bytes))
    (get_or-drop (at + 1) bytes 0 0 ∙ ap (λ (i : ℕ). get_or bytes i 0) (add-zero (at + 1)))

pub flow_more_of : (s : Flow) (bytes : List ℕ) (at : ℕ) → at < length bytes
    → flow s (drop at bytes)
    ≡ flow (flow_step s (get_or bytes at 0) (get_or bytes (at + 1) 0)) (drop (at + 1) bytes)
flow_more_of s bytes at h = ap (flow s) (step_at bytes at h)
    ∙ ap (λ (next : ℕ). flow (flow_step s (get_or bytes at 0) next) (drop (at + 1) bytes))
    (get_or-drop (at + 1) bytes 0 0 ∙ ap (λ (i : ℕ). get_or bytes i 0) (add-zero (at + 1)))

-- A quoted scalar byte by byte, as the code reads it.
use Rattle.std.specs.Prelude.{ℕ, ◌+◌, ◌==◌, Bool, true, false, List, [], ◌∷◌, ◌++◌, Option, Some}
use Rattle.std.specs.Prelude.{None, cond, slice_index}
use Rattle.yaml_terms.specs.Quoted.{Quoted, escaped_byte}
use Rattle.yaml_lines.specs.declared.quoted.Place.{Place}
use Rattle.yaml_lines.specs.declared.quoted.Place.TheVariants as places
use Rattle.yaml_lines.specs.declared.quoted.Step.{Step}
use Rattle.yaml_lines.specs.declared.quoted.Step.TheVariants as steps

pub record Scan : Type 0 where
  pub place : Place
  pub quoted : Quoted

abbrev pub scan_start : Scan
scan_start = record {
  place = places.Inside;
  quoted = record { text = []; length = 0; bad = false };
}

abbrev pub step_of : ℕ → ℕ → ℕ → Step
step_of quote byte next = cond (quote == 39)
    (cond (byte == 39) (cond (next == 39) (steps.Pair (Some 39)) steps.Stop) (steps.One byte))
    (cond (byte == 34) steps.Stop (cond (byte == 92) (steps.Pair (escaped_byte next))
    (steps.One byte)))

abbrev pub longer : Quoted → List ℕ → Bool → Quoted
longer q more bad = record { text = q.text ++ more; length = q.length + 1; bad = bad }

abbrev pub inside : Quoted → Step → Scan
inside q steps.Stop = record { place = places.Ended; quoted = longer q [] q.bad }
inside q (steps.One c) = record { place = places.Inside; quoted = longer q (c ∷ []) q.bad }
inside q (steps.Pair (Some c)) = record { place = places.Paired; quoted = longer q (c ∷ []) q.bad }
inside q (steps.Pair None) = record { place = places.Paired; quoted = longer q [] true }

abbrev pub next_scan : Place → Quoted → Step → Scan
next_scan places.Inside q step = inside q step
next_scan places.Paired q _ = record { place = places.Inside; quoted = longer q [] q.bad }
next_scan places.Ended q _ = record { place = places.Ended; quoted = q }

abbrev pub scan : ℕ → Scan → List ℕ → Scan
scan quote s [] = s
scan quote s (c ∷ cs) =
    scan quote (next_scan s.place s.quoted (step_of quote c (slice_index cs 0))) cs

abbrev pub scan_end : Scan → Option Quoted
scan_end s = at_place s.place
  where
    at_place : Place → Option Quoted
    at_place places.Ended = Some s.quoted
    at_place _ = None

-- The fault of a one-line list is that of its items and its end: quoted items, and the law.
use Rattle.std.proofs.Common.{◌≡◌, ◌≤◌, ◌==◌, ◌||◌, ◌&&◌, ℕ, zero, suc, Bool, true, false, not}
use Rattle.std.proofs.Common.{List}
use Rattle.std.proofs.Common.{[], ◌∷◌, ◌++◌, Option, Some, None, cond, option_map, length, drop}
use Rattle.std.proofs.Common.{refl}
use Rattle.std.proofs.Common.{sym, ap, subst, ◌∙◌, arith, eqb}
use Rattle.std.specs.List.{slice_index}
use Rattle.std.proofs.lemmas.Bool.{eqb-true}
use Rattle.std.proofs.lemmas.List.{length-drop}
use Rattle.yaml_terms.specs.Tree.{Tree, scalar}
use Rattle.yaml_terms.specs.FaultOrder.{earlier}
use Rattle.yaml_terms.specs.Block.{is_blank_byte}
use Rattle.yaml_terms.specs.Quoted.{Quoted, quote_end, with_byte, with_escape, escaped_byte}
use Rattle.yaml_terms.specs.Quoted.{single}
use Rattle.yaml_terms.specs.Quoted.{double}
use Rattle.yaml_terms.specs.Line.{escape_fault, inline_value, flow_value, is_quote, is_tail}
use Rattle.yaml_terms.specs.Flow.{Flow, flow, flow_start, flow_fault, flow_part, flow_more}
use Rattle.yaml_terms.specs.Flow.{flow_item}
use Rattle.yaml_terms.specs.Flow.{flow_quoted, byte_fault, in_escape, end_fault, is_flow_indicator}
use Rattle.yaml_terms.specs.Flow.{is_flow_start, is_left_out}
use Rattle.yaml_terms.specs.FlowFaults.{ends_item, from_end, fault_within, inner_fault}
use Rattle.yaml_terms.specs.FlowFaults.{behind_blanks}
use Rattle.yaml_terms.specs.FlowFaults.{Item}
use Rattle.yaml_terms.specs.FlowFaults.{fault_behind, quoted_item, fault_at_start, item_at}
use Rattle.yaml_terms.specs.FlowFaults.{item_of}
use Rattle.yaml_terms.specs.FlowFaults.{fault_at_end, HasListFault, goes_on, ends}
use Rattle.yaml_terms.specs.declared.ProfileFault.{ProfileFault}
use Rattle.yaml_terms.specs.declared.ProfileFault.TheVariants.{LeftOut, Quote, FlowForm}
use Rattle.yaml_terms.specs.declared.ProfileFault.TheVariants.{Escape as BadEscape}
use Rattle.yaml_terms.specs.declared.Part.TheVariants.{Want, Plain, Single, Doubled, Double}
use Rattle.yaml_terms.specs.declared.Part.TheVariants.{Escape, After, Broken, Closed, Over}
use Rattle.yaml_lines.proofs.LineLemmas.{earlier_assoc}
use Rattle.yaml_lines.proofs.FlowLemmas.{blank_apart, and_left, dropped, dropped_two}
use Rattle.yaml_lines.proofs.FlowItemLemmas.{start_no_flow, start_no_colon}
use Rattle.yaml_lines.proofs.FlowFaultLemmas.{so_far, comes_to, earlier_none, Soaks, soaks_more}
use Rattle.yaml_lines.proofs.FlowFaultLemmas.{soaks_fault, soaked, ends_comma, ends_bracket}
use Rattle.yaml_lines.proofs.FlowFaultLemmas.{ends_comment, goes_further, Follows, Ends, here}
use Rattle.yaml_lines.proofs.FlowFaultLemmas.{further, at_end, at_byte, within_indicator}
use Rattle.yaml_lines.proofs.FlowFaultLemmas.{within_other}
use Rattle.yaml_lines.proofs.FlowFaultLemmas.{over_fault, closed_fault, broken_fault, pending}
use Rattle.yaml_lines.proofs.FlowFaultLemmas.{within_pending, next_filled, filled_last}
use Rattle.yaml_lines.proofs.FlowFaultLemmas.{plain_fault}

gathered : (f w i x : Option ProfileFault)
    → earlier (earlier f w) (earlier i x) ≡ earlier f (earlier (earlier w i) x)
gathered f w i x = earlier_assoc f w (earlier i x) ∙ ap (earlier f) (sym (earlier_assoc w i x))

-- BLANKS

-- blanks before a comment stay
kept_blank : (a b : Bool) → (a && b) ≡ true → (a && not b) ≡ false
kept_blank true true e = refl
kept_blank true false e = absurd (cc e)
kept_blank false b e = absurd (cc e)

passed_blank : (a b : Bool) → a ≡ true → (a && b) ≡ false → (a && not b) ≡ true
passed_blank true true e f = absurd (cc f)
passed_blank true false e f = refl
passed_blank false b e f = absurd (cc e)

no_blank : (a b : Bool) → a ≡ false → (a && b) ≡ false
no_blank false b e = refl
no_blank true b e = absurd (cc e)

stay : (c : ℕ) (cs : List ℕ) → (is_blank_byte c && not (slice_index cs 0 == 35)) ≡ false
    → behind_blanks (c ∷ cs) ≡ c ∷ cs
stay c cs e = ap (λ (b : Bool). cond b (behind_blanks cs) (c ∷ cs)) e

pass : (c : ℕ) (cs : List ℕ) → (is_blank_byte c && not (slice_index cs 0 == 35)) ≡ true
    → behind_blanks (c ∷ cs) ≡ behind_blanks cs
pass c cs e = ap (λ (b : Bool). cond b (behind_blanks cs) (c ∷ cs)) e

-- BEHIND A QUOTED ITEM

behind_end : (c : ℕ) (cs : List ℕ) → (is_blank_byte c && not (slice_index cs 0 == 35)) ≡ false
    → ends_item c cs ≡ true → fault_behind (behind_blanks (c ∷ cs)) ≡ None
behind_end c cs e end = ap fault_behind (stay c cs e)
    ∙ ap (λ (b : Bool). cond b None (earlier (Some Quote) (inner_fault (c ∷ cs)))) end

abbrev AddsBehind : List ℕ → Option ProfileFault → Type 0
AddsBehind cs x = (t : List ℕ) (ys : List Tree) (f : Option ProfileFault) → Ends (from_end cs) x
    → comes_to (so_far After t ys f) cs ≡ earlier f (earlier (fault_behind (behind_blanks cs)) x)

after_fault : (cs : List ℕ) (x : Option ProfileFault) → AddsBehind cs x
after_fault [] x t ys f h = sym (ap (earlier f) h)
after_fault (c ∷ cs) x t ys f h = by (is_blank_byte c && slice_index cs 0 == 35) (is_blank_byte c)
    (c == 44) (c == 93) refl refl refl refl (after_fault cs x)
  where
    s : Flow
    s = so_far After t ys f

    n : ℕ
    n = slice_index cs 0

    quote : Option ProfileFault
    quote = earlier f (Some Quote)

    all : Option ProfileFault → Option ProfileFault
    all r = earlier f (earlier r x)

    met : Bool → ProfileFault
    met i = cond i (byte_fault c n) Quote

    soaks : (i : Bool) → Soaks (Some (met i))
    soaks true = soaks_fault c n
    soaks false = refl

    alike : (i : Bool) → is_flow_indicator c ≡ i
        → earlier quote (Some (met i)) ≡ earlier quote (fault_within c n)
    alike true i = ap (earlier quote) (sym (within_indicator c n i))
    alike false i = earlier_assoc f (Some Quote) (Some Quote)
        ∙ sym (soaked quote (c == 58 && (is_blank_byte n || is_flow_indicator n))
        (soaks_more f (Some Quote) refl))
        ∙ ap (earlier quote) (sym (within_other c n i))

    by : (m l a b : Bool) → (is_blank_byte c && slice_index cs 0 == 35) ≡ m → is_blank_byte c ≡ l
        → (c == 44) ≡ a → (c == 93) ≡ b → AddsBehind cs x
        → comes_to (cond m (flow_fault s Over FlowForm) (cond l s (cond a (flow_part s Want)
        (cond b (flow_part s Closed) (flow_fault (flow_fault s Broken Quote) Broken
        (met (is_flow_indicator c))))))) cs
        ≡ all (fault_behind (behind_blanks (c ∷ cs)))
    by true l a b m p q r more =
        let end = ends_comment c cs m in
        over_fault t ys (earlier f (Some FlowForm)) cs
        ∙ sym (ap (earlier f) ((here c cs x end h).comment m))
        ∙ ap all (sym (behind_end c cs
        (kept_blank (is_blank_byte c) (slice_index cs 0 == 35) m) end))
    by false true a b m p q r more =
        let on = goes_further c cs m (blank_apart c 44 p refl) (blank_apart c 93 p refl) in
        more t ys f (further c cs x on h)
        ∙ ap (λ (l : List ℕ). all (fault_behind l))
        (sym (pass c cs (passed_blank (is_blank_byte c) (slice_index cs 0 == 35) p m)))
    by false false true b m p q r more =
        let end = ends_comma c cs q in
        (here c cs x end h).comma q t ys f
        ∙ ap all (sym (behind_end c cs (no_blank (is_blank_byte c) _ p) end))
    by false false false true m p q r more =
        let end = ends_bracket c cs r in
        (here c cs x end h).bracket r t ys f
        ∙ ap all (sym (behind_end c cs (no_blank (is_blank_byte c) _ p) end))
    by false false false false m p q r more =
        let on = goes_further c cs m q r in
        let i = is_flow_indicator c in
        broken_fault cs x t ys (earlier quote (Some (met i)))
        (soaks_more quote (Some (met i)) (soaks i)) (further c cs x on h)
        ∙ ap (λ (g : Option ProfileFault). earlier g (earlier (inner_fault cs) x)) (alike i refl)
        ∙ sym (at_byte quote (fault_within c n) x c cs on refl)
        ∙ gathered f (Some Quote) (inner_fault (c ∷ cs)) x
        ∙ ap (λ (d : Bool). all (cond d None (earlier (Some Quote) (inner_fault (c ∷ cs)))))
        (sym on)
        ∙ ap (λ (l : List ℕ). all (fault_behind l))
        (sym (stay c cs (no_blank (is_blank_byte c) _ p)))

-- QUOTED ITEMS

abbrev QuotedAt : Option ProfileFault → Option ProfileFault → Bool → List ℕ → Type 0
QuotedAt f r bad behind = (x : Option ProfileFault) → Ends (from_end behind) x
    → r ≡ earlier (earlier f (escape_fault bad)) (earlier (fault_behind (behind_blanks behind)) x)

-- the fault that the reading of a quoted item's rest comes to
abbrev AddsQuoted : Option ProfileFault → List ℕ → Option ProfileFault → Option Quoted → Type 0
AddsQuoted f cs r None = r ≡ earlier f (Some Quote)
AddsQuoted f cs r (Some q) = QuotedAt f r q.bad (drop q.length cs)

one_byte : (f r : Option ProfileFault) (c x : ℕ) (cs : List ℕ) (o : Option Quoted)
    → AddsQuoted f cs r o
    → AddsQuoted f (c ∷ cs) r (option_map (with_byte x 1) o)
one_byte f r c x cs None h = h
one_byte f r c x cs (Some q) h = subst (QuotedAt f r q.bad) (dropped q.length c cs) h

two_bytes : (f r : Option ProfileFault) (c d x : ℕ) (cs : List ℕ) (o : Option Quoted)
    → AddsQuoted f cs r o → AddsQuoted f (c ∷ d ∷ cs) r (option_map (with_byte x 2) o)
two_bytes f r c d x cs None h = h
two_bytes f r c d x cs (Some q) h = subst (QuotedAt f r q.bad) (dropped_two q.length c d cs) h

quote_ends : (p : _) (t : List ℕ) (ys : List Tree) (f : Option ProfileFault) (c : ℕ) (cs : List ℕ)
    → AddsQuoted f (c ∷ cs) (comes_to (flow_quoted (so_far p t ys f)) cs) (Some quote_end)
quote_ends p t ys f c cs x h = after_fault cs x [] (ys ++ (scalar t false ∷ [])) f h
    ∙ ap (λ (g : Option ProfileFault). earlier g (earlier (fault_behind (behind_blanks cs)) x))
    (sym (earlier_none f))

single_fault : (cs t : List ℕ) (ys : List Tree) (f : Option ProfileFault)
    → AddsQuoted f cs (comes_to (so_far Single t ys f) cs) (single cs)
single_fault [] t ys f = refl
single_fault (c ∷ []) t ys f = by (eqb c 39)
  where
    by : (b : Bool) → AddsQuoted f (c ∷ []) (comes_to (cond b (flow_quoted (so_far Single t ys f))
        (flow_more (so_far Single t ys f) Single c)) []) (cond b (Some quote_end) None)
    by true = quote_ends Single t ys f c []
    by false = refl
single_fault (c ∷ d ∷ cs) t ys f = by (eqb c 39) (eqb d 39) (single_fault cs (t ++ (39 ∷ [])) ys f)
    (single_fault (d ∷ cs) (t ++ (c ∷ [])) ys f)
  where
    s : Flow
    s = so_far Single t ys f

    by : (b e : Bool)
        → AddsQuoted f cs (comes_to (so_far Single (t ++ (39 ∷ [])) ys f) cs) (single cs)
        → AddsQuoted f (d ∷ cs) (comes_to (so_far Single (t ++ (c ∷ [])) ys f) (d ∷ cs))
        (single (d ∷ cs))
        → AddsQuoted f (c ∷ d ∷ cs) (comes_to (cond b (cond e (flow_more s Doubled 39)
        (flow_quoted s)) (flow_more s Single c)) (d ∷ cs))
        (cond b (cond e (option_map (with_byte 39 2) (single cs)) (Some quote_end))
        (option_map (with_byte c 1) (single (d ∷ cs))))
    by true true two one = two_bytes f _ c d 39 cs (single cs) two
    by true false two one = quote_ends Single t ys f c (d ∷ cs)
    by false e two one = one_byte f _ c c (d ∷ cs) (single (d ∷ cs)) one

abbrev AddsDouble : List Tree → List ℕ → Type 0
AddsDouble ys cs = (t : List ℕ) (f : Option ProfileFault)
    → AddsQuoted f cs (comes_to (so_far Double t ys f) cs) (double cs)

escape_at : (t : List ℕ) (ys : List Tree) (f : Option ProfileFault) (c d : ℕ) (cs : List ℕ)
    (o : Option ℕ)
    → AddsDouble ys cs
    → AddsQuoted f (c ∷ d ∷ cs) (comes_to (in_escape (so_far Escape t ys f) o) cs)
    (option_map (with_escape o) (double cs))
escape_at t ys f c d cs (Some x) more = two_bytes f _ c d x cs (double cs) (more (t ++ (x ∷ [])) f)
escape_at t ys f c d cs None more = by (double cs) (more t (earlier f (Some BadEscape)))
  where
    r : Option ProfileFault
    r = comes_to (so_far Double t ys (earlier f (Some BadEscape))) cs

    again : (bad : Bool)
        → earlier (earlier f (Some BadEscape)) (escape_fault bad) ≡ earlier f (Some BadEscape)
    again true = earlier_assoc f (Some BadEscape) (Some BadEscape)
    again false = earlier_none (earlier f (Some BadEscape))

    by : (o : Option Quoted) → AddsQuoted (earlier f (Some BadEscape)) cs r o
        → AddsQuoted f (c ∷ d ∷ cs) r (option_map (with_escape None) o)
    by None h = h ∙ earlier_assoc f (Some BadEscape) (Some Quote)
    by (Some q) h = subst (QuotedAt f r true) (dropped_two q.length c d cs) (λ x end. h x end
        ∙ ap (λ (g : Option ProfileFault). earlier g
        (earlier (fault_behind (behind_blanks (drop q.length cs))) x)) (again q.bad))

double_fault : (cs : List ℕ) (ys : List Tree) → AddsDouble ys cs
double_fault [] ys t f = refl
double_fault (c ∷ []) ys t f = by (eqb c 34) (eqb c 92)
  where
    s : Flow
    s = so_far Double t ys f

    by : (b e : Bool) → AddsQuoted f (c ∷ []) (comes_to (cond b (flow_quoted s)
        (cond e (flow_part s Escape) (flow_more s Double c))) []) (cond b (Some quote_end) None)
    by true e = quote_ends Double t ys f c []
    by false true = refl
    by false false = refl
double_fault (c ∷ d ∷ cs) ys t f = by (eqb c 34) (eqb c 92)
    (escape_at t ys f c d cs (escaped_byte d) (double_fault cs ys))
    (double_fault (d ∷ cs) ys (t ++ (c ∷ [])) f)
  where
    s : Flow
    s = so_far Double t ys f

    by : (b e : Bool)
        → AddsQuoted f (c ∷ d ∷ cs) (comes_to (so_far Escape t ys f) (d ∷ cs))
        (option_map (with_escape (escaped_byte d)) (double cs))
        → AddsQuoted f (d ∷ cs) (comes_to (so_far Double (t ++ (c ∷ [])) ys f) (d ∷ cs))
        (double (d ∷ cs))
        → AddsQuoted f (c ∷ d ∷ cs) (comes_to (cond b (flow_quoted s)
        (cond e (flow_part s Escape) (flow_more s Double c))) (d ∷ cs))
        (cond b (Some quote_end) (cond e (option_map (with_escape (escaped_byte d)) (double cs))
        (option_map (with_byte c 1) (double (d ∷ cs)))))
    by true e two one = quote_ends Double t ys f c (d ∷ cs)
    by false true two one = two
    by false false two one = one_byte f _ c c (d ∷ cs) (double (d ∷ cs)) one

-- AN ITEM

abbrev AddsItem : Option ProfileFault → Option ProfileFault → Option ProfileFault → Item → Type 0
AddsItem f x r it = Ends it.rest x → r ≡ earlier f (earlier it.fault x)

adds_quoted : (f x r : Option ProfileFault) (cs : List ℕ) (o : Option Quoted) → AddsQuoted f cs r o
    → AddsItem f x r (quoted_item cs o)
adds_quoted f x r cs None h end =
    h ∙ sym (ap (λ (y : Option ProfileFault). earlier f (earlier (Some Quote) y)) end)
adds_quoted f x r cs (Some q) h end = h x end
    ∙ gathered f (escape_fault q.bad) (fault_behind (behind_blanks (drop q.length cs))) x

-- the fault of an item that isn't quoted
abbrev item_fault : ℕ → List ℕ → Option ProfileFault
item_fault c cs = cond (c == 93) None (earlier (fault_at_start c (slice_index cs 0))
    (inner_fault (c ∷ cs)))

fault_plain : (c : ℕ) (cs : List ℕ) → eqb c 93 ≡ false → is_flow_start c (slice_index cs 0) ≡ true
    → item_fault c cs ≡ inner_fault (c ∷ cs)
fault_plain c cs e s =
    ap (λ (b : Bool). cond b None
    (earlier (fault_at_start c (slice_index cs 0)) (inner_fault (c ∷ cs)))) e
    ∙ ap (λ (b : Bool). earlier (cond b None (Some (byte_fault c (slice_index cs 0))))
    (inner_fault (c ∷ cs))) s

fault_broken : (c : ℕ) (cs : List ℕ) → eqb c 93 ≡ false → is_flow_start c (slice_index cs 0) ≡ false
    → item_fault c cs ≡ earlier (Some (byte_fault c (slice_index cs 0))) (inner_fault (c ∷ cs))
fault_broken c cs e s =
    ap (λ (b : Bool). cond b None
    (earlier (fault_at_start c (slice_index cs 0)) (inner_fault (c ∷ cs)))) e
    ∙ ap (λ (b : Bool). earlier (cond b None (Some (byte_fault c (slice_index cs 0))))
    (inner_fault (c ∷ cs))) s

blank_start : (c n : ℕ) → is_blank_byte c ≡ true → is_flow_start c n ≡ true
blank_start c n e = by (eqb c 32) refl
  where
    by : (b : Bool) → eqb c 32 ≡ b → is_flow_start c n ≡ true
    by true f = ap (λ (k : ℕ). is_flow_start k n) (eqb-true c 32 f)
    by false f = ap (λ (k : ℕ). is_flow_start k n)
        (eqb-true c 9 (ap (λ (b : Bool). b || eqb c 9) (sym f) ∙ e))

-- an item that isn't quoted, with no blanks before it
unquoted : (c : ℕ) (cs : List ℕ) → (is_blank_byte c && not (slice_index cs 0 == 35)) ≡ false
    → is_quote c ≡ false → item_of (c ∷ cs) ≡ record {
      fault = item_fault c cs;
      rest = from_end (c ∷ cs);
    }
unquoted c cs e q = ap item_at (stay c cs e) ∙ ap (λ (b : Bool). cond b (quoted_item cs
    (cond (c == 39) (single cs) (double cs)))
    (record { fault = item_fault c cs; rest = from_end (c ∷ cs) })) q

no_quote : (c : ℕ) → eqb c 39 ≡ false → eqb c 34 ≡ false → is_quote c ≡ false
no_quote c e f = rw (e, f) refl

abbrev AddsHere : List ℕ → Option ProfileFault → Type 0
AddsHere cs x = (t : List ℕ) (ys : List Tree) (f : Option ProfileFault)
    → AddsItem f x (comes_to (so_far Want t ys f) cs) (item_of cs)

want_fault : (cs : List ℕ) (x : Option ProfileFault) → AddsHere cs x
want_fault [] x t ys f = λ h. sym (ap (earlier f) h)
want_fault (c ∷ cs) x t ys f = by (is_blank_byte c && slice_index cs 0 == 35) (is_blank_byte c)
    (c == 93) (c == 44) (c == 39) (c == 34) (is_flow_start c (slice_index cs 0))
    refl refl refl refl refl refl refl (want_fault cs x)
  where
    s : Flow
    s = so_far Want t ys f

    n : ℕ
    n = slice_index cs 0

    whole : Option ProfileFault → (is_blank_byte c && not (slice_index cs 0 == 35)) ≡ false
        → is_quote c ≡ false
        → (r : Option ProfileFault) → (Ends (from_end (c ∷ cs)) x
        → r ≡ earlier f (earlier (item_fault c cs) x))
        → AddsItem f x r (item_of (c ∷ cs))
    whole z e q r so = subst (AddsItem f x r) (sym (unquoted c cs e q)) so

    here_is : (r : Option ProfileFault) → item_fault c cs ≡ r
        → earlier f (earlier r x) ≡ earlier f (earlier (item_fault c cs) x)
    here_is r e = ap (λ (p : Option ProfileFault). earlier f (earlier p x)) (sym e)

    fault : Option ProfileFault
    fault = Some (byte_fault c n)

    -- the fault of a byte with which no item begins counts once
    once : (i : Bool) → is_flow_indicator c ≡ i
        → earlier f fault ≡ earlier (earlier f fault) (fault_within c n)
    once true i = ap (earlier f) (sym twice) ∙ sym (earlier_assoc f fault fault)
        ∙ ap (earlier (earlier f fault)) (sym (within_indicator c n i))
      where
        twice : earlier fault fault ≡ fault
        twice = by (c == 91 || (c == 123 && not (n == 125)) || is_left_out c
            || (c == 63 && is_blank_byte n))
          where
            by : (b : Bool)
                → earlier (Some (cond b LeftOut FlowForm)) (Some (cond b LeftOut FlowForm))
                ≡ Some (cond b LeftOut FlowForm)
            by true = refl
            by false = refl
    once false i = sym (soaked (earlier f fault)
        (c == 58 && (is_blank_byte n || is_flow_indicator n))
        (soaks_more f fault (soaks_fault c n)))
        ∙ ap (earlier (earlier f fault)) (sym (within_other c n i))

    by : (m l b a p d st : Bool) → (is_blank_byte c && slice_index cs 0 == 35) ≡ m
        → is_blank_byte c ≡ l → (c == 93) ≡ b → (c == 44) ≡ a → (c == 39) ≡ p → (c == 34) ≡ d
        → is_flow_start c n ≡ st → AddsHere cs x
        → AddsItem f x (comes_to (cond m (flow_fault s Over FlowForm) (cond l s
        (cond b (flow_part s Closed) (cond a (flow_fault s Want FlowForm)
        (cond p (flow_item s Single []) (cond d (flow_item s Double [])
        (cond st (flow_item s Plain (c ∷ [])) (flow_fault s Broken (byte_fault c n))))))))) cs)
        (item_of (c ∷ cs))
    by true l b a p d st m l' b' a' p' d' st' more =
        let blank = and_left (is_blank_byte c) (slice_index cs 0 == 35) m in
        let end = ends_comment c cs m in
        whole None (kept_blank (is_blank_byte c) (slice_index cs 0 == 35) m)
        (no_quote c (blank_apart c 39 blank refl) (blank_apart c 34 blank refl)) _
        (λ h. over_fault t ys (earlier f (Some FlowForm)) cs
        ∙ sym (at_end f x (Some FlowForm) c cs end ((here c cs x end h).comment m))
        ∙ here_is (inner_fault (c ∷ cs))
        (fault_plain c cs (blank_apart c 93 blank refl) (blank_start c n blank)))
    by false true b a p d st m l' b' a' p' d' st' more =
        subst (AddsItem f x (comes_to s cs)) (ap item_at (sym (pass c cs
        (passed_blank (is_blank_byte c) (slice_index cs 0 == 35) l' m)))) (more t ys f)
    by false false true a p d st m l' b' a' p' d' st' more =
        let end = ends_bracket c cs b' in
        whole None (no_blank (is_blank_byte c) _ l') (ap is_quote (eqb-true c 93 b')) _
        (λ h. (here c cs x end h).bracket b' t ys f
        ∙ here_is None (ap (λ (e : Bool). cond e None
        (earlier (fault_at_start c n) (inner_fault (c ∷ cs)))) b'))
    by false false false true p d st m l' b' a' p' d' st' more =
        let end = ends_comma c cs a' in
        let comma = eqb-true c 44 a' in
        let form : fault ≡ Some FlowForm = ap (λ (k : ℕ). Some (byte_fault k n)) comma in
        whole None (no_blank (is_blank_byte c) _ l') (ap is_quote comma) _
        (λ h. (here c cs x end h).comma a' t ys (earlier f (Some FlowForm))
        ∙ ap (λ (r : Option ProfileFault). earlier (earlier f r) x) (sym form)
        ∙ sym (at_end (earlier f fault) x x c cs end refl)
        ∙ gathered f fault (inner_fault (c ∷ cs)) x
        ∙ here_is (earlier fault (inner_fault (c ∷ cs)))
        (fault_broken c cs b' (ap (λ (k : ℕ). is_flow_start k n) comma)))
    by false false false false true d st m l' b' a' p' d' st' more =
        let quote = eqb-true c 39 p' in
        let r = comes_to (so_far Single [] ys f) cs in
        let item : item_of (c ∷ cs) ≡ quoted_item cs (single cs) =
        ap item_at (stay c cs (no_blank (is_blank_byte c) _ l'))
        ∙ ap (λ (k : ℕ). item_at (k ∷ cs)) quote in
        subst (AddsItem f x r) (sym item)
        (adds_quoted f x r cs (single cs) (single_fault cs [] ys f))
    by false false false false false true st m l' b' a' p' d' st' more =
        let quote = eqb-true c 34 d' in
        let r = comes_to (so_far Double [] ys f) cs in
        let item : item_of (c ∷ cs) ≡ quoted_item cs (double cs) =
        ap item_at (stay c cs (no_blank (is_blank_byte c) _ l'))
        ∙ ap (λ (k : ℕ). item_at (k ∷ cs)) quote in
        subst (AddsItem f x r) (sym item)
        (adds_quoted f x r cs (double cs) (double_fault cs ys [] f))
    by false false false false false false true m l' b' a' p' d' st' more =
        let on = goes_further c cs m a' b' in
        let colon = start_no_colon c n st' in
        let g = pending (eqb c 58) n in
        whole None (no_blank (is_blank_byte c) _ l') (no_quote c p' d') _
        (λ h. plain_fault cs x (c ∷ []) ys f (eqb c 58) (filled_last [] c l')
        (λ e. next_filled (eqb c 58) n e colon) (further c cs x on h)
        ∙ sym (earlier_assoc f g (earlier (inner_fault cs) x))
        ∙ sym (at_byte f g x c cs on (within_other c n (start_no_flow c n st')
        ∙ within_pending (eqb c 58) (is_blank_byte n) n colon))
        ∙ here_is (inner_fault (c ∷ cs)) (fault_plain c cs b' st'))
    by false false false false false false false m l' b' a' p' d' st' more =
        let on = goes_further c cs m a' b' in
        whole None (no_blank (is_blank_byte c) _ l') (no_quote c p' d') _
        (λ h. broken_fault cs x t ys (earlier f fault) (soaks_more f fault (soaks_fault c n))
        (further c cs x on h)
        ∙ ap (λ (r : Option ProfileFault). earlier r (earlier (inner_fault cs) x))
        (once (is_flow_indicator c) refl)
        ∙ sym (at_byte (earlier f fault) (fault_within c n) x c cs on refl)
        ∙ gathered f fault (inner_fault (c ∷ cs)) x
        ∙ here_is (earlier fault (inner_fault (c ∷ cs))) (fault_broken c cs b' st'))

-- THE LAW

-- the end of a list
last_fault : (rest : List ℕ) → eqb (slice_index rest 0) 44 ≡ false → Ends rest (fault_at_end rest)
last_fault [] e = refl
last_fault (c ∷ cs) e = record {
  comma = λ p. absurd (cc (sym p ∙ e));
  bracket = λ p t ys f. closed_fault t ys f cs ∙ ap (λ (b : Bool). earlier f
      (cond (b && is_tail cs) None (Some FlowForm))) (sym p);
  comment = λ m. ap (λ (b : Bool). cond (b && is_tail cs) None (Some FlowForm))
      (blank_apart c 93 (and_left (is_blank_byte c) (slice_index cs 0 == 35) m) refl);
}

fault_read : (line : List ℕ) (fault : Option ProfileFault) → HasListFault line fault
    → Follows Want line fault
fault_read _ _ (goes_on line rest fault e h) t ys f =
    want_fault line fault t ys f (subst (λ (l : List ℕ). Ends l fault) (sym e) (record {
      comma = λ p. fault_read rest fault h;
      bracket = λ p. absurd (cc p);
      comment = λ p. absurd (cc p);
    }))
fault_read _ _ (ends line e) t ys f =
    want_fault line (fault_at_end (item_of line).rest) t ys f (last_fault (item_of line).rest e)

from_end_few : (l : List ℕ) → length (from_end l) ≤ length l
from_end_few [] = omega arith
from_end_few (c ∷ cs) = by (ends_item c cs) (from_end_few cs)
  where
    by : (b : Bool) → length (from_end cs) ≤ length cs
        → length (cond b (c ∷ cs) (from_end cs)) ≤ suc (length cs)
    by true h = omega arith
    by false h = omega (arith, h)

blanks_few : (l : List ℕ) → length (behind_blanks l) ≤ length l
blanks_few [] = omega arith
blanks_few (c ∷ cs) = by (is_blank_byte c && not (slice_index cs 0 == 35)) (blanks_few cs)
  where
    by : (b : Bool) → length (behind_blanks cs) ≤ length cs
        → length (cond b (behind_blanks cs) (c ∷ cs)) ≤ suc (length cs)
    by true h = omega (arith, h)
    by false h = omega arith

quoted_few : (cs : List ℕ) (o : Option Quoted) → length (quoted_item cs o).rest ≤ length cs
quoted_few cs None = omega arith
quoted_few cs (Some q) =
    omega (arith, from_end_few (drop q.length cs), length-drop q.length cs)

item_few : (l : List ℕ) → length (item_at l).rest ≤ length l
item_few [] = omega arith
item_few (c ∷ cs) = by (is_quote c)
  where
    o : Option Quoted
    o = cond (c == 39) (single cs) (double cs)

    by : (b : Bool) → length (cond b (quoted_item cs o)
        (record { fault = item_fault c cs; rest = from_end (c ∷ cs) })).rest ≤ suc (length cs)
    by true = omega (arith, quoted_few cs o)
    by false = from_end_few (c ∷ cs)

behind_comma : (l : List ℕ) → eqb (slice_index l 0) 44 ≡ true → (more : List ℕ) × (l ≡ 44 ∷ more)
behind_comma [] e = absurd (cc e)
behind_comma (c ∷ cs) e = (cs, ap (λ (x : ℕ). x ∷ cs) (eqb-true c 44 e))

pub has_fault : (n : ℕ) (line : List ℕ) → length line ≤ n → (fault : Option ProfileFault)
    × HasListFault line fault
has_fault zero line few = by (eqb (slice_index (item_of line).rest 0) 44) refl
  where
    by : (b : Bool) → eqb (slice_index (item_of line).rest 0) 44 ≡ b
        → (fault : Option ProfileFault) × HasListFault line fault
    by false e = (_, ends line e)
    by true e = let r = behind_comma (item_of line).rest e in
        absurd (omega (arith, few, blanks_few line, item_few (behind_blanks line), ap length r.1))
has_fault (suc n) line few = by (eqb (slice_index (item_of line).rest 0) 44) refl (has_fault n)
  where
    by : (b : Bool) → eqb (slice_index (item_of line).rest 0) 44 ≡ b
        → ((l : List ℕ) → length l ≤ n → (fault : Option ProfileFault) × HasListFault l fault)
        → (fault : Option ProfileFault) × HasListFault line fault
    by false e more = (_, ends line e)
    by true e more = let r = behind_comma (item_of line).rest e in
        let h = more r.0 (omega (
          arith,
          few,
          blanks_few line,
          item_few (behind_blanks line),
          ap length r.1,
        )) in
        (_, goes_on line r.0 h.0 r.1 h.1)

fault_is : (n : ℕ) (s : Flow) → (flow_value n s).fault ≡ earlier s.fault (end_fault s.part)
fault_is n s = by (earlier s.fault (end_fault s.part)) refl
  where
    by : (o : Option ProfileFault) → earlier s.fault (end_fault s.part) ≡ o
        → (flow_value n s).fault ≡ o
    by None e = rw e refl
    by (Some w) e = rw e refl

pub fault_met : (column : ℕ) (line : List ℕ)
    → HasListFault line (inline_value column (91 ∷ line)).fault
fault_met column line =
    let r = has_fault (length line) line (omega arith) in
    subst (HasListFault line) (sym (fault_is column (flow flow_start line)
    ∙ fault_read line r.0 r.1 [] [] None)) r.1

pub one_list_fault : (line : List ℕ) (a b : Option ProfileFault) → HasListFault line a
    → HasListFault line b → a ≡ b
one_list_fault line a b h k = sym (fault_read line a h [] [] None) ∙ fault_read line b k [] [] None

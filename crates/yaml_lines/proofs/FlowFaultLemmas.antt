-- The fault of a one-line list that is read byte by byte is that of its items and its end.
use Rattle.std.proofs.Common.{◌≡◌, ◌==◌, ◌||◌, ◌&&◌, ℕ, Bool, true, false, not, List}
use Rattle.std.proofs.Common.{[], ◌∷◌, ◌++◌, Option, Some, None, cond, length, refl, sym, ap}
use Rattle.std.proofs.Common.{subst, ◌∙◌, ◌-◌, eqb}
use Rattle.std.specs.List.{slice_index}
use Rattle.std.proofs.lemmas.Bool.{eqb-true}
use Rattle.yaml_terms.specs.Tree.{Tree, scalar}
use Rattle.yaml_terms.specs.FaultOrder.{earlier}
use Rattle.yaml_terms.specs.Block.{is_blank_byte, is_blank, trimmed_text}
use Rattle.yaml_terms.specs.Line.{is_tail}
use Rattle.yaml_terms.specs.Flow.{Flow, flow, flow_fault, flow_part, flow_more, flow_plain}
use Rattle.yaml_terms.specs.Flow.{byte_fault}
use Rattle.yaml_terms.specs.Flow.{colon_end, end_fault, is_flow_indicator, is_left_out}
use Rattle.yaml_terms.specs.FlowFaults.{ends_item, from_end, fault_within, inner_fault}
use Rattle.yaml_terms.specs.declared.ProfileFault.{ProfileFault}
use Rattle.yaml_terms.specs.declared.ProfileFault.TheVariants.{LeftOut, FlowForm}
use Rattle.yaml_terms.specs.declared.Part.{Part}
use Rattle.yaml_terms.specs.declared.Part.TheVariants.{Want, Plain, Broken, Closed, Over}
use Rattle.yaml_lines.proofs.LineLemmas.{earlier_assoc}
use Rattle.yaml_lines.proofs.TrimLemmas.{strip, trim_blank, trimmed-strip}
use Rattle.yaml_lines.proofs.FlowLemmas.{blank_apart, and_left, and_false}
use Rattle.yaml_lines.proofs.FlowLemmas.{tail_comment, tail_more, tail_stops}
use Rattle.yaml_lines.proofs.FlowItemLemmas.{ends_colon, last_colon, blank_no_flow}

-- a list so far, with the earliest fault that it has
abbrev pub so_far : Part → List ℕ → List Tree → Option ProfileFault → Flow
so_far p t ys f = record { part = p; text = t; items = ys; fault = f }

-- the fault that the reading comes to
abbrev pub comes_to : Flow → List ℕ → Option ProfileFault
comes_to s cs = earlier (flow s cs).fault (end_fault (flow s cs).part)

-- EARLIER ROWS

pub earlier_none : (a : Option ProfileFault) → earlier a None ≡ a
earlier_none None = refl
earlier_none (Some a) = refl

-- no fault that a list has is later than `FlowForm`, so that one more of these changes nothing
abbrev pub Soaks : Option ProfileFault → Type 0
Soaks f = earlier f (Some FlowForm) ≡ f

pub soaks_more : (f r : Option ProfileFault) → Soaks r → Soaks (earlier f r)
soaks_more f r e = earlier_assoc f r (Some FlowForm) ∙ ap (earlier f) e

pub soaks_fault : (c n : ℕ) → Soaks (Some (byte_fault c n))
soaks_fault c n = by (c == 91 || (c == 123 && not (n == 125)) || is_left_out c
    || (c == 63 && is_blank_byte n))
  where
    by : (b : Bool) → Soaks (Some (cond b LeftOut FlowForm))
    by true = refl
    by false = refl

form_first : (c n : ℕ) (b : Bool)
    → earlier (cond b (Some FlowForm) None) (Some (byte_fault c n)) ≡ Some (byte_fault c n)
form_first c n b = by b (c == 91 || (c == 123 && not (n == 125)) || is_left_out c
    || (c == 63 && is_blank_byte n))
  where
    by : (b r : Bool) → earlier (cond b (Some FlowForm) None) (Some (cond r LeftOut FlowForm))
        ≡ Some (cond r LeftOut FlowForm)
    by true true = refl
    by true false = refl
    by false r = refl

pub soaked : (f : Option ProfileFault) (b : Bool) → Soaks f
    → earlier f (cond b (Some FlowForm) None) ≡ f
soaked f true e = e
soaked f false e = earlier_none f

-- WHERE AN ITEM ENDS

pub ends_comma : (c : ℕ) (cs : List ℕ) → eqb c 44 ≡ true → ends_item c cs ≡ true
ends_comma c cs e = rw e refl

pub ends_bracket : (c : ℕ) (cs : List ℕ) → eqb c 93 ≡ true → ends_item c cs ≡ true
ends_bracket c cs e =
    ap (λ (b : Bool). c == 44 || b || (is_blank_byte c && slice_index cs 0 == 35)) e ∙ by (c == 44)
  where
    by : (a : Bool) → (a || true || (is_blank_byte c && slice_index cs 0 == 35)) ≡ true
    by true = refl
    by false = refl

pub ends_comment : (c : ℕ) (cs : List ℕ) → (is_blank_byte c && slice_index cs 0 == 35) ≡ true
    → ends_item c cs ≡ true
ends_comment c cs e = ap (λ (m : Bool). c == 44 || c == 93 || m) e ∙ by (c == 44) (c == 93)
  where
    by : (a b : Bool) → (a || b || true) ≡ true
    by true b = refl
    by false true = refl
    by false false = refl

pub goes_further : (c : ℕ) (cs : List ℕ) → (is_blank_byte c && slice_index cs 0 == 35) ≡ false
    → eqb c 44 ≡ false → eqb c 93 ≡ false → ends_item c cs ≡ false
goes_further c cs m a b = rw (a, b, m) refl

-- what is read from here on adds this fault
abbrev pub Follows : Part → List ℕ → Option ProfileFault → Type 0
Follows p cs x = (t : List ℕ) (ys : List Tree) (f : Option ProfileFault)
    → comes_to (so_far p t ys f) cs ≡ earlier f x

-- an item's end adds this fault
pub record EndsAt (c : ℕ) (cs : List ℕ) (x : Option ProfileFault) : Type 0 where
  pub comma : eqb c 44 ≡ true → Follows Want cs x
  pub bracket : eqb c 93 ≡ true → Follows Closed cs x
  pub comment : (is_blank_byte c && slice_index cs 0 == 35) ≡ true → x ≡ Some FlowForm

abbrev pub Ends : List ℕ → Option ProfileFault → Type 0
Ends [] x = x ≡ Some FlowForm
Ends (c ∷ cs) x = EndsAt c cs x

pub here : (c : ℕ) (cs : List ℕ) (x : Option ProfileFault) → ends_item c cs ≡ true
    → Ends (from_end (c ∷ cs)) x → EndsAt c cs x
here c cs x e h = subst (λ (b : Bool). Ends (cond b (c ∷ cs) (from_end cs)) x) e h

pub further : (c : ℕ) (cs : List ℕ) (x : Option ProfileFault) → ends_item c cs ≡ false
    → Ends (from_end (c ∷ cs)) x → Ends (from_end cs) x
further c cs x e h = subst (λ (b : Bool). Ends (cond b (c ∷ cs) (from_end cs)) x) e h

-- the faults within an item, from its end and from one more byte
pub at_end : (f x y : Option ProfileFault) (c : ℕ) (cs : List ℕ) → ends_item c cs ≡ true → x ≡ y
    → earlier f (earlier (inner_fault (c ∷ cs)) x) ≡ earlier f y
at_end f x y c cs e same =
    ap (λ (b : Bool). earlier f (earlier
    (cond b None (earlier (fault_within c (slice_index cs 0)) (inner_fault cs))) x)) e
    ∙ ap (earlier f) same

pub at_byte : (f w x : Option ProfileFault) (c : ℕ) (cs : List ℕ) → ends_item c cs ≡ false
    → fault_within c (slice_index cs 0) ≡ w
    → earlier f (earlier (inner_fault (c ∷ cs)) x)
    ≡ earlier (earlier f w) (earlier (inner_fault cs) x)
at_byte f w x c cs e same =
    ap (λ (b : Bool). earlier f (earlier
    (cond b None (earlier (fault_within c (slice_index cs 0)) (inner_fault cs))) x)) e
    ∙ ap (λ (r : Option ProfileFault). earlier f (earlier (earlier r (inner_fault cs)) x)) same
    ∙ ap (earlier f) (earlier_assoc w (inner_fault cs) x)
    ∙ sym (earlier_assoc f w (earlier (inner_fault cs) x))

pub within_indicator : (c n : ℕ) → is_flow_indicator c ≡ true
    → fault_within c n ≡ Some (byte_fault c n)
within_indicator c n i = ap (λ (b : Bool). cond b (Some (byte_fault c n))
    (cond (c == 58 && (is_blank_byte n || is_flow_indicator n)) (Some FlowForm) None)) i

pub within_other : (c n : ℕ) → is_flow_indicator c ≡ false → fault_within c n
    ≡ cond (c == 58 && (is_blank_byte n || is_flow_indicator n)) (Some FlowForm) None
within_other c n i = ap (λ (b : Bool). cond b (Some (byte_fault c n))
    (cond (c == 58 && (is_blank_byte n || is_flow_indicator n)) (Some FlowForm) None)) i

within_colon : (c n : ℕ) → is_flow_indicator c ≡ false → (c == 58 && is_blank_byte n) ≡ true
    → fault_within c n ≡ Some FlowForm
within_colon c n i k = within_other c n i
    ∙ ap (λ (b : Bool). cond b (Some FlowForm) None)
    (by (c == 58) (is_blank_byte n) (is_flow_indicator n) k)
  where
    by : (a b d : Bool) → (a && b) ≡ true → (a && (b || d)) ≡ true
    by true true d e = refl
    by true false d e = absurd (cc e)
    by false b d e = absurd (cc e)

-- BEHIND WHAT ENDS THE READING

pub over_fault : (t : List ℕ) (ys : List Tree) (f : Option ProfileFault) (cs : List ℕ)
    → comes_to (so_far Over t ys f) cs ≡ f
over_fault t ys f [] = earlier_none f
over_fault t ys f (c ∷ cs) = over_fault t ys f cs

pub closed_fault : (t : List ℕ) (ys : List Tree) (f : Option ProfileFault) (cs : List ℕ)
    → comes_to (so_far Closed t ys f) cs ≡ earlier f (cond (is_tail cs) None (Some FlowForm))
closed_fault t ys f [] = refl
closed_fault t ys f (c ∷ cs) = by (is_blank_byte c) (eqb (slice_index cs 0) 35) refl refl
    (closed_fault t ys f cs)
  where
    s : Flow
    s = so_far Closed t ys f

    by : (b n : Bool) → is_blank_byte c ≡ b → eqb (slice_index cs 0) 35 ≡ n
        → comes_to s cs ≡ earlier f (cond (is_tail cs) None (Some FlowForm))
        → comes_to (cond b (cond n (flow_part s Over) s) (flow_fault s Over FlowForm)) cs
        ≡ earlier f (cond (is_tail (c ∷ cs)) None (Some FlowForm))
    by true true b n more = over_fault t ys f cs ∙ sym (earlier_none f)
        ∙ ap (λ (x : Bool). earlier f (cond x None (Some FlowForm))) (sym (tail_comment c cs b n))
    by true false b n more = more
        ∙ ap (λ (x : Bool). earlier f (cond x None (Some FlowForm))) (sym (tail_more c cs b n))
    by false n b m more = over_fault t ys (earlier f (Some FlowForm)) cs
        ∙ ap (λ (x : Bool). earlier f (cond x None (Some FlowForm))) (sym (tail_stops c cs b))

-- PLAIN ITEMS

-- the reading of what is left of an item adds its faults
abbrev pub Adds : Part → List ℕ → Option ProfileFault → Type 0
Adds p cs x = (t : List ℕ) (ys : List Tree) (f : Option ProfileFault) → Soaks f
    → Ends (from_end cs) x
    → comes_to (so_far p t ys f) cs ≡ earlier f (earlier (inner_fault cs) x)

-- with a fault that hides `FlowForm`
pub plain_soaked : (cs : List ℕ) (x : Option ProfileFault) → Adds Plain cs x
plain_soaked [] x t ys f e h = sym (ap (earlier f) h)
plain_soaked (c ∷ cs) x t ys f e h = by (is_blank_byte c && slice_index cs 0 == 35) (c == 44)
    (c == 93) (is_flow_indicator c) (c == 58 && is_blank_byte (slice_index cs 0))
    refl refl refl refl refl (plain_soaked cs x)
  where
    s : Flow
    s = so_far Plain t ys f

    n : ℕ
    n = slice_index cs 0

    kept : (b : Bool) → cond b (earlier f (Some FlowForm)) f ≡ f
    kept true = e
    kept false = refl

    ended : (p : Part) → Follows p cs x → comes_to (flow_plain s p) cs ≡ earlier f x
    ended p so = so [] (ys ++ (scalar (trimmed_text is_blank_byte t) true ∷ []))
        (colon_end f (trimmed_text is_blank_byte t))
        ∙ ap (λ (g : Option ProfileFault). earlier g x)
        (kept (eqb (slice_index (trimmed_text is_blank_byte t)
        (length (trimmed_text is_blank_byte t) - 1)) 58))

    by : (m a b i k : Bool) → (is_blank_byte c && slice_index cs 0 == 35) ≡ m → (c == 44) ≡ a
        → (c == 93) ≡ b → is_flow_indicator c ≡ i → (c == 58 && is_blank_byte n) ≡ k
        → Adds Plain cs x
        → comes_to (cond m (flow_fault s Over FlowForm) (cond a (flow_plain s Want)
        (cond b (flow_plain s Closed) (cond i (flow_fault s Plain (byte_fault c n))
        (cond k (flow_fault s Plain FlowForm) (flow_more s Plain c)))))) cs
        ≡ earlier f (earlier (inner_fault (c ∷ cs)) x)
    by true a b i k m o p q r more =
        let ends = ends_comment c cs m in
        over_fault t ys (earlier f (Some FlowForm)) cs
        ∙ sym (at_end f x (Some FlowForm) c cs ends ((here c cs x ends h).comment m))
    by false true b i k m o p q r more =
        let ends = ends_comma c cs o in
        ended Want ((here c cs x ends h).comma o) ∙ sym (at_end f x x c cs ends refl)
    by false false true i k m o p q r more =
        let ends = ends_bracket c cs p in
        ended Closed ((here c cs x ends h).bracket p) ∙ sym (at_end f x x c cs ends refl)
    by false false false true k m o p q r more =
        let on = goes_further c cs m o p in
        more t ys (earlier f (Some (byte_fault c n)))
        (soaks_more f (Some (byte_fault c n)) (soaks_fault c n)) (further c cs x on h)
        ∙ sym (at_byte f (Some (byte_fault c n)) x c cs on (within_indicator c n q))
    by false false false false true m o p q r more =
        let on = goes_further c cs m o p in
        more t ys (earlier f (Some FlowForm)) (soaks_more f (Some FlowForm) refl)
        (further c cs x on h)
        ∙ sym (at_byte f (Some FlowForm) x c cs on (within_colon c n q r))
    by false false false false false m o p q r more =
        let on = goes_further c cs m o p in
        let colon : Bool = c == 58 && (is_blank_byte n || is_flow_indicator n) in
        more (t ++ (c ∷ [])) ys f e (further c cs x on h)
        ∙ ap (λ (g : Option ProfileFault). earlier g (earlier (inner_fault cs) x))
        (sym (soaked f colon e))
        ∙ sym (at_byte f (cond colon (Some FlowForm) None) x c cs on (within_other c n q))

-- what is no item
pub broken_fault : (cs : List ℕ) (x : Option ProfileFault) → Adds Broken cs x
broken_fault [] x t ys f e h = sym (ap (earlier f) h)
broken_fault (c ∷ cs) x t ys f e h = by (is_blank_byte c && slice_index cs 0 == 35) (c == 44)
    (c == 93) (is_flow_indicator c) refl refl refl refl (broken_fault cs x)
  where
    s : Flow
    s = so_far Broken t ys f

    n : ℕ
    n = slice_index cs 0

    by : (m a b i : Bool) → (is_blank_byte c && slice_index cs 0 == 35) ≡ m → (c == 44) ≡ a
        → (c == 93) ≡ b → is_flow_indicator c ≡ i → Adds Broken cs x
        → comes_to (cond m (flow_fault s Over FlowForm) (cond a (flow_part s Want)
        (cond b (flow_part s Closed) (cond i (flow_fault s Broken (byte_fault c n)) s)))) cs
        ≡ earlier f (earlier (inner_fault (c ∷ cs)) x)
    by true a b i m o p q more =
        let ends = ends_comment c cs m in
        over_fault t ys (earlier f (Some FlowForm)) cs
        ∙ sym (at_end f x (Some FlowForm) c cs ends ((here c cs x ends h).comment m))
    by false true b i m o p q more =
        let ends = ends_comma c cs o in
        (here c cs x ends h).comma o t ys f ∙ sym (at_end f x x c cs ends refl)
    by false false true i m o p q more =
        let ends = ends_bracket c cs p in
        (here c cs x ends h).bracket p t ys f ∙ sym (at_end f x x c cs ends refl)
    by false false false true m o p q more =
        let on = goes_further c cs m o p in
        more t ys (earlier f (Some (byte_fault c n)))
        (soaks_more f (Some (byte_fault c n)) (soaks_fault c n)) (further c cs x on h)
        ∙ sym (at_byte f (Some (byte_fault c n)) x c cs on (within_indicator c n q))
    by false false false false m o p q more =
        let on = goes_further c cs m o p in
        let colon : Bool = c == 58 && (is_blank_byte n || is_flow_indicator n) in
        more t ys f e (further c cs x on h)
        ∙ ap (λ (g : Option ProfileFault). earlier g (earlier (inner_fault cs) x))
        (sym (soaked f colon e))
        ∙ sym (at_byte f (cond colon (Some FlowForm) None) x c cs on (within_other c n q))

-- the fault of a colon at the end of what was read of an item, before this byte
abbrev pub pending : Bool → ℕ → Option ProfileFault
pending o n = cond (o && is_flow_indicator n) (Some FlowForm) None

pending_none : (o : Bool) (n : ℕ) → is_flow_indicator n ≡ false → pending o n ≡ None
pending_none o n e = ap (λ (b : Bool). cond (o && b) (Some FlowForm) None) e ∙ by o
  where
    by : (o : Bool) → cond (o && false) (Some FlowForm) None ≡ None
    by true = refl
    by false = refl

pending_some : (o : Bool) (n : ℕ) → is_flow_indicator n ≡ true
    → pending o n ≡ cond o (Some FlowForm) None
pending_some o n e = ap (λ (b : Bool). cond (o && b) (Some FlowForm) None) e ∙ by o
  where
    by : (o : Bool) → cond (o && true) (Some FlowForm) None ≡ cond o (Some FlowForm) None
    by true = refl
    by false = refl

pub within_pending : (d e : Bool) (n : ℕ) → (d && e) ≡ false
    → cond (d && (e || is_flow_indicator n)) (Some FlowForm) None ≡ pending d n
within_pending true true n k = absurd (cc k)
within_pending true false n k = refl
within_pending false e n k = refl

pub next_filled : (d : Bool) (n : ℕ) → d ≡ true → (d && is_blank_byte n) ≡ false
    → is_blank_byte n ≡ false
next_filled true n e k = k
next_filled false n e k = absurd (cc e)

-- a byte that is no blank stays at the end
all_but : (t : List ℕ) (c : ℕ) → is_blank_byte c ≡ false → is_blank (t ++ (c ∷ [])) ≡ false
all_but [] c e = rw e refl
all_but (d ∷ t) c e = and_false (is_blank_byte d) (is_blank (t ++ (c ∷ []))) (all_but t c e)

strip_full : (t : List ℕ) (c : ℕ) → is_blank_byte c ≡ false → strip (t ++ (c ∷ [])) ≡ t ++ (c ∷ [])
strip_full [] c e = rw e refl
strip_full (d ∷ t) c e =
    ap (λ (b : Bool). cond b [] (d ∷ strip (t ++ (c ∷ []))))
    (and_false (is_blank_byte d) (is_blank (t ++ (c ∷ []))) (all_but t c e))
    ∙ ap (λ (l : List ℕ). d ∷ l) (strip_full t c e)

last_is : (t : List ℕ) (c : ℕ) → ends_colon (t ++ (c ∷ [])) ≡ eqb c 58
last_is [] c = refl
last_is (d ∷ []) c = refl
last_is (d ∷ f ∷ t) c = last_is (f ∷ t) c

blank_last : (t : List ℕ) (c : ℕ) → is_blank_byte c ≡ true
    → ends_colon (strip (t ++ (c ∷ []))) ≡ ends_colon (strip t)
blank_last t c e = ap ends_colon (trim_blank t (c ∷ []) (rw e refl))

pub filled_last : (t : List ℕ) (c : ℕ) → is_blank_byte c ≡ false
    → ends_colon (strip (t ++ (c ∷ []))) ≡ eqb c 58
filled_last t c e = ap ends_colon (strip_full t c e) ∙ last_is t c

-- no blank is read behind a colon at the end
abbrev pub IsOpen : Bool → List ℕ → Type 0
IsOpen o cs = o ≡ true → is_blank_byte (slice_index cs 0) ≡ false

abbrev pub AddsPlain : List ℕ → Option ProfileFault → Type 0
AddsPlain cs x = (t : List ℕ) (ys : List Tree) (f : Option ProfileFault) (o : Bool)
    → ends_colon (strip t) ≡ o → IsOpen o cs → Ends (from_end cs) x
    → comes_to (so_far Plain t ys f) cs
    ≡ earlier f (earlier (pending o (slice_index cs 0)) (earlier (inner_fault cs) x))

pub plain_fault : (cs : List ℕ) (x : Option ProfileFault) → AddsPlain cs x
plain_fault [] x t ys f o colon free h =
    sym (ap (earlier f) (ap (λ (p : Option ProfileFault). earlier p x)
    (pending_none o 0 refl) ∙ h))
plain_fault (c ∷ cs) x t ys f o colon free h = by (is_blank_byte c && slice_index cs 0 == 35)
    (c == 44) (c == 93) (is_flow_indicator c) (c == 58 && is_blank_byte (slice_index cs 0))
    refl refl refl refl refl (plain_fault cs x)
  where
    s : Flow
    s = so_far Plain t ys f

    n : ℕ
    n = slice_index cs 0

    all : Option ProfileFault → Option ProfileFault
    all p = earlier f (earlier p (earlier (inner_fault (c ∷ cs)) x))

    colon_is : eqb (slice_index (trimmed_text is_blank_byte t)
        (length (trimmed_text is_blank_byte t) - 1)) 58
        ≡ o
    colon_is = ap (λ (u : List ℕ). eqb (slice_index u (length u - 1)) 58) (trimmed-strip t)
        ∙ last_colon (strip t) ∙ colon

    one : (b : Bool) → earlier (cond b (earlier f (Some FlowForm)) f) x
        ≡ earlier f (earlier (cond b (Some FlowForm) None) x)
    one true = earlier_assoc f (Some FlowForm) x
    one false = refl

    ended : (p : Part) → Follows p cs x → is_flow_indicator c ≡ true → ends_item c cs ≡ true
        → comes_to (flow_plain s p) cs ≡ all (pending o c)
    ended p so i ends =
        let g = pending o c in
        so [] (ys ++ (scalar (trimmed_text is_blank_byte t) true ∷ []))
        (colon_end f (trimmed_text is_blank_byte t))
        ∙ ap (λ (b : Bool). earlier (cond b (earlier f (Some FlowForm)) f) x) colon_is
        ∙ one o
        ∙ ap (λ (p : Option ProfileFault). earlier f (earlier p x)) (sym (pending_some o c i))
        ∙ sym (earlier_assoc f g x)
        ∙ sym (at_end (earlier f g) x x c cs ends refl)
        ∙ earlier_assoc f g (earlier (inner_fault (c ∷ cs)) x)

    plain : is_flow_indicator c ≡ false → all None ≡ all (pending o c)
    plain i = ap all (sym (pending_none o c i))

    on_with : AddsPlain cs x → ends_item c cs ≡ false → is_flow_indicator c ≡ false
        → (c == 58 && is_blank_byte n) ≡ false
        → (b : Bool) → is_blank_byte c ≡ b → comes_to (flow_more s Plain c) cs ≡ all (pending o c)
    on_with more on i k true b =
        let closed : o ≡ false = shut o refl in
        more (t ++ (c ∷ [])) ys f false (blank_last t c b ∙ colon ∙ closed) (λ e. absurd (cc e))
        (further c cs x on h)
        ∙ ap (λ (g : Option ProfileFault). earlier g (earlier (inner_fault cs) x))
        (sym (earlier_none f))
        ∙ sym (at_byte f None x c cs on (within_other c n i ∙ ap (λ (d : Bool).
        cond (d && (is_blank_byte n || is_flow_indicator n)) (Some FlowForm) None)
        (blank_apart c 58 b refl)))
        ∙ plain i
      where
        shut : (o' : Bool) → o ≡ o' → o ≡ false
        shut false e = e
        shut true e = absurd (cc (sym b ∙ free e))
    on_with more on i k false b =
        more (t ++ (c ∷ [])) ys f (eqb c 58) (filled_last t c b) (λ e. next_filled (eqb c 58) n e k)
        (further c cs x on h)
        ∙ sym (earlier_assoc f (pending (eqb c 58) n) (earlier (inner_fault cs) x))
        ∙ sym (at_byte f (pending (eqb c 58) n) x c cs on
        (within_other c n i ∙ within_pending (eqb c 58) (is_blank_byte n) n k))
        ∙ plain i

    by : (m a b i k : Bool) → (is_blank_byte c && slice_index cs 0 == 35) ≡ m → (c == 44) ≡ a
        → (c == 93) ≡ b → is_flow_indicator c ≡ i → (c == 58 && is_blank_byte n) ≡ k
        → AddsPlain cs x
        → comes_to (cond m (flow_fault s Over FlowForm) (cond a (flow_plain s Want)
        (cond b (flow_plain s Closed) (cond i (flow_fault s Plain (byte_fault c n))
        (cond k (flow_fault s Plain FlowForm) (flow_more s Plain c)))))) cs
        ≡ all (pending o c)
    by true a b i k m z p q r more =
        let ends = ends_comment c cs m in
        over_fault t ys (earlier f (Some FlowForm)) cs
        ∙ sym (at_end f x (Some FlowForm) c cs ends ((here c cs x ends h).comment m))
        ∙ plain (blank_no_flow c (and_left (is_blank_byte c) (slice_index cs 0 == 35) m))
    by false true b i k m z p q r more =
        let ends = ends_comma c cs z in
        ended Want ((here c cs x ends h).comma z) (rw z refl) ends
    by false false true i k m z p q r more =
        let ends = ends_bracket c cs p in
        ended Closed ((here c cs x ends h).bracket p) (ap is_flow_indicator (eqb-true c 93 p)) ends
    by false false false true k m z p q r more =
        let on = goes_further c cs m z p in
        let g = pending o c in
        let fault : Option ProfileFault = Some (byte_fault c n) in
        plain_soaked cs x t ys (earlier f fault) (soaks_more f fault (soaks_fault c n))
        (further c cs x on h)
        ∙ ap (λ (w : Option ProfileFault). earlier (earlier f w) (earlier (inner_fault cs) x))
        (sym (form_first c n (o && is_flow_indicator c)))
        ∙ ap (λ (w : Option ProfileFault). earlier w (earlier (inner_fault cs) x))
        (sym (earlier_assoc f g fault))
        ∙ sym (at_byte (earlier f g) fault x c cs on (within_indicator c n q))
        ∙ earlier_assoc f g (earlier (inner_fault (c ∷ cs)) x)
    by false false false false true m z p q r more =
        let on = goes_further c cs m z p in
        plain_soaked cs x t ys (earlier f (Some FlowForm)) (soaks_more f (Some FlowForm) refl)
        (further c cs x on h)
        ∙ sym (at_byte f (Some FlowForm) x c cs on (within_colon c n q r))
        ∙ plain q
    by false false false false false m z p q r more =
        on_with more (goes_further c cs m z p) q r (is_blank_byte c) refl

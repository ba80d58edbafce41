-- One-line lists byte by byte: faults stay, and what is read behind an item, in quotes and behind
-- the closing bracket.
use Rattle.std.proofs.Common.{◌≡◌, ◌+◌, ℕ, suc, Bool, true, false, ◌&&◌, ◌||◌, List, [], ◌∷◌, ◌++◌}
use Rattle.std.proofs.Common.{Option, Some, None, cond, nat_le, nat_lt, ◌-◌, ◌==◌, is_some}
use Rattle.std.proofs.Common.{option_map, length, drop, refl, sym, ap, subst, ◌∙◌, arith, eqb, ◌⊎◌}
use Rattle.std.proofs.Common.{inl, inr, append_assoc, append-nil, get_or-drop}
use Rattle.std.specs.List.{slice_index, prefix_len}
use Rattle.std.proofs.lemmas.Bool.{eqb-true}
use Rattle.std.proofs.lemmas.Bool.Decides.{nat_tests}
use Rattle.yaml_terms.specs.Tree.{Tree, scalar}
use Rattle.yaml_terms.specs.FaultOrder.{earlier, place}
use Rattle.yaml_terms.specs.Block.{is_blank_byte, is_blank, trimmed_text}
use Rattle.yaml_terms.specs.Quoted.{Quoted, quote_end, with_byte, with_escape, escaped_byte}
use Rattle.yaml_terms.specs.Quoted.{single}
use Rattle.yaml_terms.specs.Quoted.{double}
use Rattle.yaml_terms.specs.Line.{is_tail}
use Rattle.yaml_terms.specs.Flow.{Flow, flow, flow_step, flow_at, flow_fault, flow_part, flow_more}
use Rattle.yaml_terms.specs.Flow.{flow_quoted, colon_end, in_want, in_plain, in_escape}
use Rattle.yaml_terms.specs.Flow.{begins_comment, end_fault, is_flow_start, is_flow_indicator}
use Rattle.yaml_terms.specs.Flow.{byte_fault}
use Rattle.yaml_terms.specs.FlowList.{HasBlanks, Closes, EndsWell}
use Rattle.yaml_terms.specs.declared.ProfileFault.{ProfileFault}
use Rattle.yaml_terms.specs.declared.ProfileFault.TheVariants.{Quote, FlowForm, Escape as BadEscape}
use Rattle.yaml_terms.specs.declared.Part.{Part}
use Rattle.yaml_terms.specs.declared.Part.TheVariants.{Want, Plain, Single, Doubled, Double}
use Rattle.yaml_terms.specs.declared.Part.TheVariants.{Escape, After, Broken, Closed, Over}

-- a list without a fault so far
abbrev pub at : Part → List ℕ → List Tree → Flow
at p t ys = record { part = p; text = t; items = ys; fault = None }

-- it ends well over these bytes, with these items
pub record Good (s : Flow) (cs : List ℕ) (zs : List Tree) : Type 0 where
  pub ends : EndsWell (flow s cs) zs

-- over one more byte
pub tail_of : (s : Flow) (c : ℕ) (cs : List ℕ) (zs : List Tree) → Good s (c ∷ cs) zs
    → Good (flow_step s c (slice_index cs 0)) cs zs
tail_of s c cs zs g = record { ends = g.ends }

pub over_one : (s : Flow) (c : ℕ) (cs : List ℕ) (zs : List Tree)
    → Good (flow_step s c (slice_index cs 0)) cs zs → Good s (c ∷ cs) zs
over_one s c cs zs g = record { ends = g.ends }

-- where a test decides
pub pick : {G : Type 0} (b : Bool) (x y : Flow) (cs : List ℕ) (zs : List Tree)
    → (b ≡ true → Good x cs zs → G) → (b ≡ false → Good y cs zs → G) → Good (cond b x y) cs zs → G
pick true x y cs zs on off g = on refl g
pick false x y cs zs on off g = off refl g

pub when_true : (b : Bool) (x y : Flow) (cs : List ℕ) (zs : List Tree) → b ≡ true → Good x cs zs
    → Good (cond b x y) cs zs
when_true true x y cs zs e g = g
when_true false x y cs zs e g = absurd (cc e)

pub when_false : (b : Bool) (x y : Flow) (cs : List ℕ) (zs : List Tree) → b ≡ false → Good y cs zs
    → Good (cond b x y) cs zs
when_false false x y cs zs e g = g
when_false true x y cs zs e g = absurd (cc e)

-- FAULTS STAY

pub record Faulty (s : Flow) : Type 0 where
  pub met : is_some s.fault ≡ true

either : (b : Bool) (x y : Flow) → Faulty x → Faulty y → Faulty (cond b x y)
either true x y f g = f
either false x y f g = g

faulty : (s : Flow) → is_some s.fault ≡ true → Faulty s
faulty s e = record { met = e }

pub later_fault : (o : Option ProfileFault) (w : ProfileFault) → is_some (earlier o (Some w)) ≡ true
later_fault None w = refl
later_fault (Some a) w = by (nat_le (place a) (place w))
  where
    by : (b : Bool) → is_some (cond b (Some a) (Some w)) ≡ true
    by true = refl
    by false = refl

keeps_fault : (o p : Option ProfileFault) → is_some o ≡ true → is_some (earlier o p) ≡ true
keeps_fault (Some a) None e = refl
keeps_fault (Some a) (Some b) e = later_fault (Some a) b
keeps_fault None p e = absurd (cc e)

colon_stays : (o : Option ProfileFault) (t : List ℕ) → is_some o ≡ true
    → is_some (colon_end o t) ≡ true
colon_stays o t e = by (slice_index t (length t - 1) == 58)
  where
    by : (b : Bool) → is_some (cond b (earlier o (Some FlowForm)) o) ≡ true
    by true = later_fault o FlowForm
    by false = e

stays_want : (s : Flow) (c n : ℕ) → is_some s.fault ≡ true → Faulty (in_want s c n)
stays_want s c n f = either (is_blank_byte c) _ _ (faulty _ f)
    (either (c == 93) _ _ (faulty _ f)
    (either (c == 44) _ _ (faulty _ (later_fault s.fault FlowForm))
    (either (c == 39) _ _ (faulty _ f)
    (either (c == 34) _ _ (faulty _ f)
    (either (is_flow_start c n) _ _ (faulty _ f)
    (faulty _ (later_fault s.fault (byte_fault c n))))))))

stays_plain : (s : Flow) (c n : ℕ) → is_some s.fault ≡ true → Faulty (in_plain s c n)
stays_plain s c n f = let colon = colon_stays s.fault (trimmed_text is_blank_byte s.text) f in
    either (c == 44) _ _ (faulty _ colon)
    (either (c == 93) _ _ (faulty _ colon)
    (either (is_flow_indicator c) _ _ (faulty _ (later_fault s.fault (byte_fault c n)))
    (either (c == 58 && is_blank_byte n) _ _ (faulty _ (later_fault s.fault FlowForm))
    (faulty _ f))))

stays_escape : (s : Flow) (o : Option ℕ) → is_some s.fault ≡ true → Faulty (in_escape s o)
stays_escape s (Some c) f = faulty _ f
stays_escape s None f = faulty _ (later_fault s.fault BadEscape)

stays_at : (p : Part) (s : Flow) (c n : ℕ) → is_some s.fault ≡ true → Faulty (flow_at p s c n)
stays_at Want s c n f = stays_want s c n f
stays_at Plain s c n f = stays_plain s c n f
stays_at Single s c n f =
    either (c == 39) _ _ (either (n == 39) _ _ (faulty _ f) (faulty _ f)) (faulty _ f)
stays_at Doubled s c n f = faulty _ f
stays_at Double s c n f =
    either (c == 34) _ _ (faulty _ f) (either (c == 92) _ _ (faulty _ f) (faulty _ f))
stays_at Escape s c n f = stays_escape s (escaped_byte c) f
stays_at After s c n f =
    either (is_blank_byte c) _ _ (faulty _ f) (either (c == 44) _ _ (faulty _ f)
    (either (c == 93) _ _ (faulty _ f) (faulty _ (later_fault (earlier s.fault (Some Quote)) _))))
stays_at Broken s c n f = either (c == 44) _ _ (faulty _ f) (either (c == 93) _ _ (faulty _ f)
    (either (is_flow_indicator c) _ _ (faulty _ (later_fault s.fault (byte_fault c n)))
    (faulty _ f)))
stays_at Closed s c n f = either (is_blank_byte c) _ _
    (either (n == 35) _ _ (faulty _ f) (faulty _ f)) (faulty _ (later_fault s.fault FlowForm))
stays_at Over s c n f = faulty _ f

stays_step : (s : Flow) (c n : ℕ) → is_some s.fault ≡ true → Faulty (flow_step s c n)
stays_step s c n f = either (begins_comment s.part c n) _ _
    (faulty _ (later_fault s.fault FlowForm))
    (stays_at s.part s c n f)

stays : (s : Flow) (cs : List ℕ) → is_some s.fault ≡ true → is_some (flow s cs).fault ≡ true
stays s [] f = f
stays s (c ∷ cs) f =
    stays (flow_step s c (slice_index cs 0)) cs (stays_step s c (slice_index cs 0) f).met

-- so a list with a fault doesn't end well
pub never : {G : Type 0} (s : Flow) (cs : List ℕ) (zs : List Tree) → is_some s.fault ≡ true
    → Good s cs zs → G
never s cs zs f g =
    absurd (some_none (sym (keeps_fault (flow s cs).fault (end_fault (flow s cs).part)
    (stays s cs f))
    ∙ ap is_some g.ends.fine))
  where
    some_none : true ≡ false → ⊥
    some_none e = cc e

-- BEHIND THE CLOSING BRACKET

over : (t : List ℕ) (ys : List Tree) (cs : List ℕ) → flow (at Over t ys) cs ≡ at Over t ys
over t ys [] = refl
over t ys (c ∷ cs) = over t ys cs

zero_apart : (n : ℕ) → (eqb 0 (suc n) || false) ≡ false
zero_apart n = grind (arith, nat_tests)

one_then : (n : ℕ) (x : Bool) → x ≡ true → (eqb 1 (suc (suc n)) || (true && x)) ≡ true
one_then n x e = grind (arith, nat_tests)

one_stops : (n : ℕ) (x : Bool) → x ≡ false
    → (eqb 1 (suc (suc n)) || (true && x)) ≡ (eqb 0 (suc n) || false)
one_stops n x e = grind (arith, nat_tests)

one_more : (k n : ℕ) (x : Bool) → (eqb (1 + (1 + k)) (suc (suc n)) || (nat_lt 0 (1 + (1 + k)) && x))
    ≡ (eqb (1 + k) (suc n) || (nat_lt 0 (1 + k) && x))
one_more k n x = grind (arith, nat_tests)

-- a blank before `#`
pub tail_comment : (c : ℕ) (cs : List ℕ) → is_blank_byte c ≡ true → eqb (slice_index cs 0) 35 ≡ true
    → is_tail (c ∷ cs) ≡ true
tail_comment c [] b e = absurd (cc e)
tail_comment c (d ∷ ds) b e =
    rw (b, ap is_blank_byte (eqb-true d 35 e)) (one_then (length ds) (eqb d 35) e)

-- a blank before another byte
pub tail_more : (c : ℕ) (cs : List ℕ) → is_blank_byte c ≡ true → eqb (slice_index cs 0) 35 ≡ false
    → is_tail (c ∷ cs) ≡ is_tail cs
tail_more c [] b e = rw b refl
tail_more c (d ∷ ds) b e = by (is_blank_byte d) refl
  where
    by : (x : Bool) → is_blank_byte d ≡ x → is_tail (c ∷ d ∷ ds) ≡ is_tail (d ∷ ds)
    by true n = let k = prefix_len is_blank_byte ds in
        rw (b, n) (one_more k (length ds) (eqb (slice_index (c ∷ d ∷ ds) (1 + (1 + k))) 35)
        ∙ ap (λ (x : ℕ). eqb (1 + k) (suc (length ds)) || (nat_lt 0 (1 + k) && eqb x 35))
        (sym (get_or-drop 1 (c ∷ d ∷ ds) (1 + k) 0)))
    by false n = rw (b, n) (one_stops (length ds) (eqb d 35) e)

pub tail_stops : (c : ℕ) (cs : List ℕ) → is_blank_byte c ≡ false → is_tail (c ∷ cs) ≡ false
tail_stops c cs b = rw b (zero_apart (length cs))

pub closed_reads : (t : List ℕ) (ys : List Tree) (cs : List ℕ) (zs : List Tree)
    → Good (at Closed t ys) cs zs → (is_tail cs ≡ true) × (ys ≡ zs)
closed_reads t ys [] zs g = (refl, g.ends.all)
closed_reads t ys (c ∷ cs) zs g = pick (is_blank_byte c) _ _ cs zs
    (λ b. pick (eqb (slice_index cs 0) 35) _ _ cs zs
    (λ e h. (tail_comment c cs b e, ap (λ (s : Flow). s.items) (sym (over t ys cs)) ∙ h.ends.all))
    (λ e h. let r = closed_reads t ys cs zs h in (tail_more c cs b e ∙ r.0, r.1)))
    (λ b. never (flow_fault (at Closed t ys) Over FlowForm) cs zs refl)
    (tail_of (at Closed t ys) c cs zs g)

pub closed_writes : (t : List ℕ) (ys : List Tree) (cs : List ℕ) → is_tail cs ≡ true
    → Good (at Closed t ys) cs ys
closed_writes t ys [] e = record { ends = record { fine = refl; all = refl } }
closed_writes t ys (c ∷ cs) e =
    by (is_blank_byte c) (eqb (slice_index cs 0) 35) refl refl (closed_writes t ys cs)
  where
    by : (b n : Bool) → is_blank_byte c ≡ b → eqb (slice_index cs 0) 35 ≡ n
        → (is_tail cs ≡ true → Good (at Closed t ys) cs ys) → Good (at Closed t ys) (c ∷ cs) ys
    by true true b n more = over_one _ c cs ys
        (when_true (is_blank_byte c) _ _ cs ys b (when_true (eqb (slice_index cs 0) 35) _ _ cs ys n
        (record { ends = rw (over t ys cs) (record { fine = refl; all = refl }) })))
    by true false b n more = over_one _ c cs ys (when_true (is_blank_byte c) _ _ cs ys b
        (when_false (eqb (slice_index cs 0) 35) _ _ cs ys n (more (sym (tail_more c cs b n) ∙ e))))
    by false n b m more = absurd (cc (sym e ∙ tail_stops c cs b))

-- BEHIND AN ITEM

abbrev pub Ahead : (List ℕ → Type 0) → List ℕ → List Tree → List Tree → Type 0
Ahead follows rest ys zs = (Closes rest × (ys ≡ zs))
    ⊎ ((more : List ℕ) × (rest ≡ 44 ∷ more) × follows more)

pub wider : (c : ℕ) (cs rest : List ℕ) → is_blank_byte c ≡ true → HasBlanks cs rest
    → HasBlanks (c ∷ cs) rest
wider c cs rest b h = record {
  blanks = c ∷ h.blanks;
  cut = ap (λ (l : List ℕ). c ∷ l) h.cut;
  blank = rw b h.blank;
}

pub after_reads : (t : List ℕ) (ys : List Tree) (cs : List ℕ) (zs : List Tree)
    → Good (at After t ys) cs zs
    → (rest : List ℕ) × HasBlanks cs rest × Ahead (λ more. Good (at Want t ys) more zs) rest ys zs
after_reads t ys [] zs g = absurd (cc g.ends.fine)
after_reads t ys (c ∷ cs) zs g = pick (is_blank_byte c && slice_index cs 0 == 35) _ _ cs zs
    (λ e. never (flow_fault (at After t ys) Over FlowForm) cs zs refl)
    (λ e. pick (is_blank_byte c) _ _ cs zs
    (λ b h. let r = after_reads t ys cs zs h in (r.0, wider c cs r.0 b r.1, r.2))
    (λ b. pick (c == 44) _ _ cs zs
    (λ d h. (
      c ∷ cs,
      record { blanks = []; cut = refl; blank = refl },
      inr (cs, ap (λ (x : ℕ). x ∷ cs) (eqb-true c 44 d), h),
    ))
    (λ d. pick (c == 93) _ _ cs zs
    (λ f h. let r = closed_reads t ys cs zs h in (
      c ∷ cs,
      record { blanks = []; cut = refl; blank = refl },
      inl (
        record {
          behind = cs;
          cut = ap (λ (x : ℕ). x ∷ cs) (eqb-true c 93 f);
          tail = r.0;
        },
        r.1,
      ),
    ))
    (λ f. never (flow_fault (flow_fault (at After t ys) Broken Quote)
    Broken (cond (is_flow_indicator c) (byte_fault c (slice_index cs 0)) Quote)) cs zs (later_fault
    (Some Quote) (cond (is_flow_indicator c) (byte_fault c (slice_index cs 0)) Quote))))))
    (tail_of (at After t ys) c cs zs g)

pub blank_apart : (c n : ℕ) → is_blank_byte c ≡ true → is_blank_byte n ≡ false → eqb c n ≡ false
blank_apart c n b m = by (eqb c n) refl
  where
    by : (x : Bool) → eqb c n ≡ x → x ≡ false
    by false e = refl
    by true e = absurd (cc (sym b ∙ ap is_blank_byte (eqb-true c n e) ∙ m))

pub and_left : (x y : Bool) → (x && y) ≡ true → x ≡ true
and_left true y e = refl
and_left false y e = e

pub and_right : (x y : Bool) → (x && y) ≡ true → y ≡ true
and_right true y e = e
and_right false y e = absurd (cc e)

pub and_false : (x y : Bool) → y ≡ false → (x && y) ≡ false
and_false true y e = e
and_false false y e = refl

-- no `#` behind blanks that other text follows
no_comment : (bs rest : List ℕ) → is_blank bs ≡ true → eqb (slice_index rest 0) 35 ≡ false
    → eqb (slice_index (bs ++ rest) 0) 35 ≡ false
no_comment [] rest e f = f
no_comment (b ∷ bs) rest e f = blank_apart b 35 (and_left (is_blank_byte b) (is_blank bs) e) refl

-- blanks in a part of a list in which a blank changes nothing
blanks_within : (p : Part) (t : List ℕ) (ys : List Tree)
    → ((b : ℕ) (cs : List ℕ) (zs : List Tree) → is_blank_byte b ≡ true
    → (is_blank_byte b && slice_index cs 0 == 35) ≡ false → Good (at p t ys) cs zs
    → Good (flow_step (at p t ys) b (slice_index cs 0)) cs zs)
    → (bs rest : List ℕ) (zs : List Tree) → is_blank bs ≡ true
    → eqb (slice_index rest 0) 35 ≡ false → Good (at p t ys) rest zs
    → Good (at p t ys) (bs ++ rest) zs
blanks_within p t ys one [] rest zs e f g = g
blanks_within p t ys one (b ∷ bs) rest zs e f g =
    let others = and_right (is_blank_byte b) (is_blank bs) e in
    over_one (at p t ys) b (bs ++ rest) zs
    (one b (bs ++ rest) zs (and_left (is_blank_byte b) (is_blank bs) e)
    (and_false (is_blank_byte b) _ (no_comment bs rest others f))
    (blanks_within p t ys one bs rest zs others f g))

-- blanks before an item, or behind one
pub want_blanks : (t : List ℕ) (ys : List Tree) (bs rest : List ℕ) (zs : List Tree)
    → is_blank bs ≡ true → eqb (slice_index rest 0) 35 ≡ false → Good (at Want t ys) rest zs
    → Good (at Want t ys) (bs ++ rest) zs
want_blanks t ys = blanks_within Want t ys
    (λ b cs zs e f g. when_false (is_blank_byte b && slice_index cs 0 == 35) _ _ cs zs f
    (when_true (is_blank_byte b) _ _ cs zs e g))

pub after_blanks : (t : List ℕ) (ys : List Tree) (bs rest : List ℕ) (zs : List Tree)
    → is_blank bs ≡ true → eqb (slice_index rest 0) 35 ≡ false → Good (at After t ys) rest zs
    → Good (at After t ys) (bs ++ rest) zs
after_blanks t ys = blanks_within After t ys
    (λ b cs zs e f g. when_false (is_blank_byte b && slice_index cs 0 == 35) _ _ cs zs f
    (when_true (is_blank_byte b) _ _ cs zs e g))

-- QUOTED ITEMS

-- What the reading of a quoted item's rest comes to, where t is read of it: nothing good without
-- its end, or with an escape that is none; else the list goes on behind it.
abbrev pub ReadsAs : List ℕ → List Tree → Flow → List ℕ → List ℕ → ℕ → Bool → Type 0
ReadsAs t ys final cs text size true = (zs : List Tree) → EndsWell final zs → ⊥
ReadsAs t ys final cs text size false =
    final ≡ flow (at After [] (ys ++ (scalar (t ++ text) false ∷ []))) (drop size cs)

abbrev pub Reads : List ℕ → List Tree → Flow → List ℕ → Option Quoted → Type 0
Reads t ys final cs None = (zs : List Tree) → EndsWell final zs → ⊥
Reads t ys final cs (Some q) = ReadsAs t ys final cs q.text q.length q.bad

pub dropped : (n c : ℕ) (cs : List ℕ) → drop n cs ≡ drop (1 + n) (c ∷ cs)
dropped n c cs = subst (λ (m : ℕ). drop n cs ≡ drop m (c ∷ cs)) one refl
  where
    one : suc n ≡ 1 + n
    one = omega arith

pub dropped_two : (n c d : ℕ) (cs : List ℕ) → drop n cs ≡ drop (2 + n) (c ∷ d ∷ cs)
dropped_two n c d cs = subst (λ (m : ℕ). drop n cs ≡ drop m (c ∷ d ∷ cs)) two refl
  where
    two : suc (suc n) ≡ 2 + n
    two = omega arith

abbrev goes_on_with : List Tree → List ℕ → List ℕ → Flow
goes_on_with ys text rest = flow (at After [] (ys ++ (scalar text false ∷ []))) rest

more_as : (t : List ℕ) (ys : List Tree) (final : Flow) (x : ℕ) (cs wide text : List ℕ)
    (size wider : ℕ) (bad : Bool) → drop size cs ≡ drop wider wide
    → ReadsAs (t ++ (x ∷ [])) ys final cs text size bad
    → ReadsAs t ys final wide (x ∷ text) wider bad
more_as t ys final x cs wide text size wider true d h = h
more_as t ys final x cs wide text size wider false d h =
    h ∙ ap (λ (u : List ℕ). goes_on_with ys u (drop size cs)) (append_assoc t (x ∷ []) text)
    ∙ ap (goes_on_with ys (t ++ (x ∷ text))) d

-- one more byte of the item, written as one or as two
one_byte : (t : List ℕ) (ys : List Tree) (final : Flow) (c x : ℕ) (cs : List ℕ) (o : Option Quoted)
    → Reads (t ++ (x ∷ [])) ys final cs o → Reads t ys final (c ∷ cs) (option_map (with_byte x 1) o)
one_byte t ys final c x cs None h = h
one_byte t ys final c x cs (Some q) h =
    more_as t ys final x cs (c ∷ cs) q.text q.length (1 + q.length) q.bad (dropped q.length c cs) h

two_bytes : (t : List ℕ) (ys : List Tree) (final : Flow)
    (c d x : ℕ) (cs : List ℕ) (o : Option Quoted) → Reads (t ++ (x ∷ [])) ys final cs o
    → Reads t ys final (c ∷ d ∷ cs) (option_map (with_byte x 2) o)
two_bytes t ys final c d x cs None h = h
two_bytes t ys final c d x cs (Some q) h = more_as t ys final x cs (c ∷ d ∷ cs) q.text q.length
    (2 + q.length) q.bad (dropped_two q.length c d cs) h

ended_as : (t : List ℕ) (ys : List Tree) (c : ℕ) (cs : List ℕ)
    → Reads t ys (goes_on_with ys t cs) (c ∷ cs) (Some quote_end)
ended_as t ys c cs = ap (λ (u : List ℕ). goes_on_with ys u cs) (sym (append-nil t))

pub single_is : (t : List ℕ) (ys : List Tree) (cs : List ℕ)
    → Reads t ys (flow (at Single t ys) cs) cs (single cs)
single_is t ys [] = λ zs g. cc g.fine
single_is t ys (c ∷ []) = by (eqb c 39)
  where
    by : (b : Bool) → Reads t
        ys (flow (cond b (flow_quoted (at Single t ys)) (flow_more (at Single t ys) Single c)) [])
        (c ∷ []) (cond b (Some quote_end) None)
    by true = ended_as t ys c []
    by false = λ zs g. cc g.fine
single_is t ys (c ∷ d ∷ cs) = by (eqb c 39) (eqb d 39) (single_is (t ++ (39 ∷ [])) ys cs)
    (single_is (t ++ (c ∷ [])) ys (d ∷ cs))
  where
    by : (b e : Bool) → Reads (t ++ (39 ∷ [])) ys (flow (at Single (t ++ (39 ∷ [])) ys) cs)
        cs (single cs)
        → Reads (t ++ (c ∷ [])) ys (flow (at Single (t ++ (c ∷ [])) ys) (d ∷ cs)) (d ∷ cs)
        (single (d ∷ cs))
        → Reads t ys (flow (cond b (cond e (flow_more (at Single t ys) Doubled 39)
        (flow_quoted (at Single t ys))) (flow_more (at Single t ys) Single c)) (d ∷ cs))
        (c ∷ d ∷ cs)
        (cond b (cond e (option_map (with_byte 39 2) (single cs)) (Some quote_end))
        (option_map (with_byte c 1) (single (d ∷ cs))))
    by true true two one = two_bytes t ys _ c d 39 cs (single cs) two
    by true false two one = ended_as t ys c (d ∷ cs)
    by false e two one = one_byte t ys _ c c (d ∷ cs) (single (d ∷ cs)) one

escape_is : (t : List ℕ) (ys : List Tree) (c d : ℕ) (cs : List ℕ) (o : Option ℕ)
    → ((x : ℕ) → Reads (t ++ (x ∷ [])) ys (flow (at Double (t ++ (x ∷ [])) ys) cs) cs (double cs))
    → Reads t ys (flow (in_escape (at Escape t ys) o) cs) (c ∷ d ∷ cs)
    (option_map (with_escape o) (double cs))
escape_is t ys c d cs (Some x) more = two_bytes t ys _ c d x cs (double cs) (more x)
escape_is t ys c d cs None more = by (double cs)
  where
    by : (o : Option Quoted) → Reads t ys (flow (in_escape (at Escape t ys) None) cs) (c ∷ d ∷ cs)
        (option_map (with_escape None) o)
    by None = λ zs g. never (in_escape (at Escape t ys) None) cs zs refl (record { ends = g })
    by (Some q) = λ zs g. never (in_escape (at Escape t ys) None) cs zs refl (record { ends = g })

pub double_is : (t : List ℕ) (ys : List Tree) (cs : List ℕ)
    → Reads t ys (flow (at Double t ys) cs) cs (double cs)
double_is t ys [] = λ zs g. cc g.fine
double_is t ys (c ∷ []) = by (eqb c 34) (eqb c 92)
  where
    by : (b e : Bool) → Reads t ys (flow (cond b (flow_quoted (at Double t ys))
        (cond e (flow_part (at Double t ys) Escape) (flow_more (at Double t ys) Double c))) [])
        (c ∷ []) (cond b (Some quote_end) None)
    by true e = ended_as t ys c []
    by false true = λ zs g. cc g.fine
    by false false = λ zs g. cc g.fine
double_is t ys (c ∷ d ∷ cs) = by (eqb c 34) (eqb c 92) (escape_is t ys c d cs (escaped_byte d)
    (λ x. double_is (t ++ (x ∷ [])) ys cs)) (double_is (t ++ (c ∷ [])) ys (d ∷ cs))
  where
    by : (b e : Bool) → Reads t ys (flow (at Escape t ys) (d ∷ cs)) (c ∷ d ∷ cs)
        (option_map (with_escape (escaped_byte d)) (double cs))
        → Reads (t ++ (c ∷ [])) ys (flow (at Double (t ++ (c ∷ [])) ys) (d ∷ cs)) (d ∷ cs)
        (double (d ∷ cs))
        → Reads t ys (flow (cond b (flow_quoted (at Double t ys))
        (cond e (flow_part (at Double t ys) Escape) (flow_more (at Double t ys) Double c)))
        (d ∷ cs)) (c ∷ d ∷ cs)
        (cond b (Some quote_end) (cond e (option_map (with_escape (escaped_byte d)) (double cs))
        (option_map (with_byte c 1) (double (d ∷ cs)))))
    by true e two one = ended_as t ys c (d ∷ cs)
    by false true two one = two
    by false false two one = one_byte t ys _ c c (d ∷ cs) (double (d ∷ cs)) one

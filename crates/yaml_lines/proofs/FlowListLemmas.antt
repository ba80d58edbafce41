-- One-line lists byte by byte are the one-line lists, both ways.
use Rattle.std.proofs.Common.{◌≡◌, ◌==◌, ◌≤◌, ℕ, zero, suc, Bool, true, false, ◌&&◌, ◌||◌, not}
use Rattle.std.proofs.Common.{List, [], ◌∷◌, ◌++◌, Option, Some, None, length, drop, refl, sym, ap}
use Rattle.std.proofs.Common.{subst, ◌∙◌, arith, eqb, ◌⊎◌, inl, inr, append_assoc, append-nil}
use Rattle.std.specs.List.{slice_index}
use Rattle.std.proofs.lemmas.Bool.{eqb-true}
use Rattle.std.proofs.lemmas.List.{length-drop, length-append}
use Rattle.yaml_terms.specs.Tree.{Tree, scalar, mapping, sequence, trees}
use Rattle.yaml_terms.specs.Mark.{value}
use Rattle.yaml_terms.specs.FaultOrder.{earlier}
use Rattle.yaml_terms.specs.Block.{is_blank_byte, is_blank}
use Rattle.yaml_terms.specs.Quoted.{Quoted, single, double, quoted}
use Rattle.yaml_terms.specs.Line.{is_quote, stops_plain, inline_value, one_mark}
use Rattle.yaml_terms.specs.Flow.{Flow, flow, flow_start, flow_fault, byte_fault, end_fault}
use Rattle.yaml_terms.specs.Flow.{is_flow_indicator, is_indicator, is_flow_start, ends_soft}
use Rattle.yaml_terms.specs.FlowList.{begins_item, goes_on, IsPlainItem, IsQuotedItem, IsItem}
use Rattle.yaml_terms.specs.FlowList.{HasBlanks, Closes, EndsOrGoesOn, IsFlowList, EndsWell}
use Rattle.yaml_terms.specs.declared.ProfileFault.{ProfileFault}
use Rattle.yaml_terms.specs.declared.ProfileFault.TheVariants.{FlowForm}
use Rattle.yaml_terms.specs.declared.Part.TheVariants.{Want, Plain, Single, Double, After}
use Rattle.yaml_terms.specs.declared.Part.TheVariants.{Broken, Closed, Over}
use Rattle.yaml_lines.proofs.TrimLemmas.{strip, trim_blank, trim_split, trim_again, trimmed-strip}
use Rattle.yaml_lines.proofs.FlowLemmas.{at, Good, pick, when_true, when_false, over_one, tail_of}
use Rattle.yaml_lines.proofs.FlowLemmas.{never, closed_reads, closed_writes, after_reads, wider}
use Rattle.yaml_lines.proofs.FlowLemmas.{want_blanks, after_blanks, Reads, ReadsAs, single_is}
use Rattle.yaml_lines.proofs.FlowLemmas.{double_is, and_left, and_right}
use Rattle.yaml_lines.proofs.FlowItemLemmas.{not_true, and_true, false_and, apart_by, carries_on}
use Rattle.yaml_lines.proofs.FlowItemLemmas.{head_or, inner, head_append, plain_on, PlainEnds}
use Rattle.yaml_lines.proofs.FlowItemLemmas.{PlainRest, plain_reads, ends_colon, goes_from}
use Rattle.yaml_lines.proofs.FlowItemLemmas.{goes_colon, inner_of, inner_blanks, head_of_blanks}
use Rattle.yaml_lines.proofs.FlowItemLemmas.{plain_ended, plain_ends, begins_alike, begins_there}
use Rattle.yaml_lines.proofs.FlowItemLemmas.{blank_ends, start_plain, start_carries}

-- FROM THE WORDS TO THE READING

-- what stands behind an item, where the reading ends well
abbrev ItemEnd : List Tree → List ℕ → List Tree → Type 0
ItemEnd ys rest zs = ((behind : List ℕ) × (rest ≡ 93 ∷ behind) × Good (at Closed [] ys) behind zs)
    ⊎ ((more : List ℕ) × (rest ≡ 44 ∷ more) × Good (at Want [] ys) more zs)

end_free : (ys : List Tree) (rest : List ℕ) (zs : List Tree) → ItemEnd ys rest zs
    → eqb (slice_index rest 0) 35 ≡ false
end_free ys rest zs (inl h) = ap (λ (l : List ℕ). eqb (slice_index l 0) 35) h.1
end_free ys rest zs (inr h) = ap (λ (l : List ℕ). eqb (slice_index l 0) 35) h.1

end_soft : (ys : List Tree) (rest : List ℕ) (zs : List Tree) → ItemEnd ys rest zs
    → ends_soft (slice_index rest 0) ≡ true
end_soft ys rest zs (inl h) = ap (λ (l : List ℕ). ends_soft (slice_index l 0)) h.1
end_soft ys rest zs (inr h) = ap (λ (l : List ℕ). ends_soft (slice_index l 0)) h.1

after_end : (ys : List Tree) (rest : List ℕ) (zs : List Tree) → ItemEnd ys rest zs
    → Good (at After [] ys) rest zs
after_end ys rest zs (inl h) = subst (λ (l : List ℕ). Good (at After [] ys) l zs) (sym h.1)
    (over_one (at After [] ys) 93 h.0 zs h.2)
after_end ys rest zs (inr h) = subst (λ (l : List ℕ). Good (at After [] ys) l zs) (sym h.1)
    (over_one (at After [] ys) 44 h.0 zs h.2)

plain_end : (t u : List ℕ) (ys : List Tree) (rest : List ℕ) (zs : List Tree)
    → strip t ≡ u → ends_colon u ≡ false → ItemEnd (ys ++ (scalar u true ∷ [])) rest zs
    → Good (at Plain t ys) rest zs
plain_end t u ys rest zs e f (inl h) = subst (λ (l : List ℕ). Good (at Plain t ys) l zs) (sym h.1)
    (over_one (at Plain t ys) 93 h.0 zs (plain_ends t u ys Closed h.0 zs e f h.2))
plain_end t u ys rest zs e f (inr h) = subst (λ (l : List ℕ). Good (at Plain t ys) l zs) (sym h.1)
    (over_one (at Plain t ys) 44 h.0 zs (plain_ends t u ys Want h.0 zs e f h.2))

soft_of_blanks : (bs : List ℕ) (n : ℕ) → is_blank bs ≡ true → ends_soft n ≡ true
    → ends_soft (head_or bs n) ≡ true
soft_of_blanks [] n e f = f
soft_of_blanks (b ∷ bs) n e f = blank_ends b (and_left (is_blank_byte b) (is_blank bs) e)

-- a plain item, blanks, and what stands behind them
plain_writes : (t text : List ℕ) (ys : List Tree) (bs rest : List ℕ) (zs : List Tree)
    → IsPlainItem text → is_blank bs ≡ true → ItemEnd (ys ++ (scalar text true ∷ [])) rest zs
    → Good (at Want t ys) (text ++ (bs ++ rest)) zs
plain_writes t [] ys bs rest zs item e end = absurd (cc item.begins)
plain_writes t (c ∷ w) ys bs rest zs item e end =
    let cs = w ++ (bs ++ rest) in
    let filled = not_true (is_blank_byte c)
    (and_left (not (is_blank_byte c)) (is_flow_start c (slice_index w 0)) item.begins) in
    let begins =
    and_right (not (is_blank_byte c)) (is_flow_start c (slice_index w 0)) item.begins in
    let soft : ends_soft (slice_index (bs ++ rest) 0) ≡ true = ap ends_soft (head_append bs rest)
    ∙ soft_of_blanks bs (slice_index rest 0) e
    (end_soft (ys ++ (scalar (c ∷ w) true ∷ [])) rest zs end) in
    let start : is_flow_start c (slice_index cs 0) ≡ true =
    begins_there c w (bs ++ rest) soft ∙ begins in
    let plain = start_plain c (slice_index cs 0) start in
    let free = end_free (ys ++ (scalar (c ∷ w) true ∷ [])) rest zs end in
    let ahead : eqb (slice_index (bs ++ rest) 0) 35 ≡ false =
    ap (λ (x : ℕ). eqb x 35) (head_append bs rest)
    ∙ head_of_blanks bs (slice_index rest 0) e free in
    let on = and_right (not (stops_plain c w)) (goes_on w)
    (and_right (not (is_flow_indicator c)) (not (stops_plain c w) && goes_on w) item.inside) in
    let whole : strip ((c ∷ w) ++ bs) ≡ c ∷ w = trim_blank (c ∷ w) bs e
    ∙ sym (trimmed-strip (c ∷ w)) ∙ item.whole in
    let read =
    plain_on (c ∷ []) ys w (bs ++ rest) zs (inner_of w (slice_index (bs ++ rest) 0) on ahead)
    (plain_on (c ∷ w) ys bs rest zs (inner_blanks bs (slice_index rest 0) e free) (plain_end
    ((c ∷ w) ++ bs) (c ∷ w) ys rest zs whole (goes_colon (c ∷ w) item.inside) end)) in
    over_one (at Want t ys) c cs zs
    (when_false (is_blank_byte c && slice_index cs 0 == 35) _ _ cs zs
    (false_and (is_blank_byte c) _ filled)
    (when_false (is_blank_byte c) _ _ cs zs filled
    (when_false (c == 93) _ _ cs zs (apart_by is_indicator c 93 plain refl)
    (when_false (c == 44) _ _ cs zs (apart_by is_indicator c 44 plain refl)
    (when_false (c == 39) _ _ cs zs (apart_by is_indicator c 39 plain refl)
    (when_false (c == 34) _ _ cs zs (apart_by is_indicator c 34 plain refl)
    (when_true (is_flow_start c (slice_index cs 0)) _ _ cs zs start read)))))))

other_quote : (x y : Bool) → (x || y) ≡ true → x ≡ false → y ≡ true
other_quote false y e f = e
other_quote true y e f = absurd (cc f)

-- a quoted item, and what stands behind it
quoted_writes : (t line text behind : List ℕ) (ys : List Tree) (zs : List Tree)
    → IsQuotedItem line text behind → Good (at After [] (ys ++ (scalar text false ∷ []))) behind zs
    → Good (at Want t ys) line zs
quoted_writes t line text behind ys zs item g = by (eqb item.quote 39) refl
  where
    read : Option Quoted
    read = Some (record { text = text; length = item.size; bad = false })

    there : EndsWell (flow (at After [] (ys ++ (scalar text false ∷ [])))
        (drop item.size item.body)) zs
    there =
        subst (λ (l : List ℕ). EndsWell (flow (at After [] (ys ++ (scalar text false ∷ []))) l) zs)
        item.behind g.ends

    by : (b : Bool) → eqb item.quote 39 ≡ b → Good (at Want t ys) line zs
    by true e = let quote = eqb-true item.quote 39 e in
        let reads : single item.body ≡ read =
        subst (λ (q : ℕ). quoted q item.body ≡ read) quote item.reads in
        let final : flow (at Single [] ys) item.body
        ≡ flow (at After [] (ys ++ (scalar text false ∷ []))) (drop item.size item.body) =
        subst (Reads [] ys (flow (at Single [] ys) item.body) item.body) reads
        (single_is [] ys item.body) in
        subst (λ (l : List ℕ). Good (at Want t ys) l zs)
        (sym (item.cut ∙ ap (λ (q : ℕ). q ∷ item.body) quote))
        (over_one (at Want t ys) 39 item.body zs
        (record { ends = subst (λ (f : Flow). EndsWell f zs) (sym final) there }))
    by false e = let quote = eqb-true item.quote 34
        (other_quote (eqb item.quote 39) (eqb item.quote 34) item.quotes e) in
        let reads : double item.body ≡ read =
        subst (λ (q : ℕ). quoted q item.body ≡ read) quote item.reads in
        let final : flow (at Double [] ys) item.body
        ≡ flow (at After [] (ys ++ (scalar text false ∷ []))) (drop item.size item.body) =
        subst (Reads [] ys (flow (at Double [] ys) item.body) item.body) reads
        (double_is [] ys item.body) in
        subst (λ (l : List ℕ). Good (at Want t ys) l zs)
        (sym (item.cut ∙ ap (λ (q : ℕ). q ∷ item.body) quote))
        (over_one (at Want t ys) 34 item.body zs
        (record { ends = subst (λ (f : Flow). EndsWell f zs) (sym final) there }))

-- an item, blanks, and what stands behind them
item_writes : (t line behind rest : List ℕ) (x : Tree) (ys : List Tree) (zs : List Tree)
    → IsItem line x behind → HasBlanks behind rest → ItemEnd (ys ++ (x ∷ [])) rest zs
    → Good (at Want t ys) line zs
item_writes t line behind rest (scalar text true) ys zs item hb end =
    subst (λ (l : List ℕ). Good (at Want t ys) l zs)
    (sym (item.0 ∙ ap (λ (l : List ℕ). text ++ l) hb.cut))
    (plain_writes t text ys hb.blanks rest zs item.1 hb.blank end)
item_writes t line behind rest (scalar text false) ys zs item hb end =
    quoted_writes t line text behind ys zs item
    (subst (λ (l : List ℕ). Good (at After [] (ys ++ (scalar text false ∷ []))) l zs) (sym hb.cut)
    (after_blanks [] (ys ++ (scalar text false ∷ [])) hb.blanks rest zs
    hb.blank (end_free (ys ++ (scalar text false ∷ [])) rest zs end)
    (after_end (ys ++ (scalar text false ∷ [])) rest zs end)))
item_writes t line behind rest (mapping es) ys zs item hb end = absurd item
item_writes t line behind rest (sequence is) ys zs item hb end = absurd item

quote_free : (q : ℕ) → is_quote q ≡ true → eqb q 35 ≡ false
quote_free q e = by (eqb q 35) refl
  where
    by : (x : Bool) → eqb q 35 ≡ x → x ≡ false
    by false f = refl
    by true f = absurd (cc (sym e ∙ ap is_quote (eqb-true q 35 f)))

item_free : (line behind : List ℕ) (x : Tree) → IsItem line x behind
    → eqb (slice_index line 0) 35 ≡ false
item_free line behind (scalar [] true) item = absurd (cc item.1.begins)
item_free line behind (scalar (c ∷ w) true) item =
    ap (λ (l : List ℕ). eqb (slice_index l 0) 35) item.0
    ∙ apart_by is_indicator c 35 (start_plain c (slice_index w 0)
    (and_right (not (is_blank_byte c)) (is_flow_start c (slice_index w 0)) item.1.begins)) refl
item_free line behind (scalar text false) item =
    ap (λ (l : List ℕ). eqb (slice_index l 0) 35) item.cut ∙ quote_free item.quote item.quotes
item_free line behind (mapping es) item = absurd item
item_free line behind (sequence is) item = absurd item

pub list_writes : (xs : List Tree) (line t : List ℕ) (ys : List Tree) → IsFlowList line xs
    → Good (at Want t ys) line (ys ++ xs)
list_writes [] line t ys h =
    let closes = h.2 in
    let there : Good (at Want t ys) (93 ∷ closes.behind) (ys ++ []) = subst (λ (zs : List Tree).
    Good (at Want t ys) (93 ∷ closes.behind) zs) (sym (append-nil ys)) (over_one (at Want t ys)
    93 closes.behind ys (closed_writes t ys closes.behind closes.tail)) in
    subst (λ (l : List ℕ). Good (at Want t ys) l (ys ++ [])) (sym h.1.cut)
    (want_blanks t ys h.1.blanks
    h.0 (ys ++ []) h.1.blank (ap (λ (l : List ℕ). eqb (slice_index l 0) 35) closes.cut)
    (subst (λ (l : List ℕ). Good (at Want t ys) l (ys ++ [])) (sym closes.cut) there))
list_writes (x ∷ xs) line t ys h =
    let from = h.0 in
    let end = ends h.4 h.6 (λ more list. list_writes xs more [] (ys ++ (x ∷ [])) list) in
    subst (λ (l : List ℕ). Good (at Want t ys) l (ys ++ (x ∷ xs))) (sym h.1.cut)
    (want_blanks t ys h.1.blanks from (ys ++ (x ∷ xs)) h.1.blank (item_free from h.2 x h.3)
    (item_writes t from h.2 h.4 x ys (ys ++ (x ∷ xs)) h.3 h.5 end))
  where
    ends : (rest : List ℕ) → EndsOrGoesOn (λ l. IsFlowList l xs) rest xs → ((more : List ℕ)
        → IsFlowList more xs → Good (at Want [] (ys ++ (x ∷ []))) more ((ys ++ (x ∷ [])) ++ xs))
        → ItemEnd (ys ++ (x ∷ [])) rest (ys ++ (x ∷ xs))
    ends rest (inl g) more = inl (
      g.0.behind,
      g.0.cut,
      subst (λ (l : List Tree). Good (at Closed [] (ys ++ (x ∷ []))) g.0.behind (ys ++ (x ∷ l)))
          (sym g.1) (closed_writes [] (ys ++ (x ∷ [])) g.0.behind g.0.tail),
    )
    ends rest (inr g) more =
        inr (
          g.0,
          g.1,
          subst (λ (zs : List Tree). Good (at Want [] (ys ++ (x ∷ []))) g.0 zs)
              (append_assoc ys (x ∷ []) xs) (more g.0 g.2),
        )

-- FROM THE READING TO THE WORDS

-- blanks before an item or the end
want_skips : (t : List ℕ) (ys : List Tree) (cs : List ℕ) (zs : List Tree)
    → Good (at Want t ys) cs zs
    → (from : List ℕ) × HasBlanks cs from × (is_blank_byte (slice_index from 0) ≡ false)
    × Good (at Want t ys) from zs
want_skips t ys [] zs g = absurd (cc g.ends.fine)
want_skips t ys (c ∷ cs) zs g = pick (is_blank_byte c && slice_index cs 0 == 35) _ _ cs zs
    (λ m. never (flow_fault (at Want t ys) Over FlowForm) cs zs refl)
    (λ m. pick (is_blank_byte c) _ _ cs zs
    (λ b h. let r = want_skips t ys cs zs h in (r.0, wider c cs r.0 b r.1, r.2, r.3))
    (λ b h. (c ∷ cs, record { blanks = []; cut = refl; blank = refl }, b, g)))
    (tail_of (at Want t ys) c cs zs g)

-- what a list's text is, from the items that were read before it on
abbrev Outcome : List Tree → List ℕ → List Tree → Type 0
Outcome ys cs zs = (xs : List Tree) × (zs ≡ ys ++ xs) × IsFlowList cs xs

abbrev Shorter : ℕ → Type 0
Shorter n = (t : List ℕ) (ys : List Tree) (cs : List ℕ) (zs : List Tree) → length cs ≤ n
    → Good (at Want t ys) cs zs → Outcome ys cs zs

-- an item and what stands behind it, or the end
abbrev FromHere : List Tree → List ℕ → List Tree → Type 0
FromHere ys from zs = (Closes from × (ys ≡ zs))
    ⊎ ((x : Tree) × (behind : List ℕ) × IsItem from x behind
    × (rest : List ℕ) × HasBlanks behind rest × (xs : List Tree) × (zs ≡ ys ++ (x ∷ xs))
    × EndsOrGoesOn (λ l. IsFlowList l xs) rest xs)

-- a comma, and a shorter list
comma_reads : (n : ℕ) (ys : List Tree) (x : Tree) (behind rest more : List ℕ) (zs : List Tree)
    → Shorter n → length behind ≤ n → HasBlanks behind rest → rest ≡ 44 ∷ more
    → Good (at Want [] (ys ++ (x ∷ []))) more zs
    → (xs : List Tree) × (zs ≡ ys ++ (x ∷ xs)) × EndsOrGoesOn (λ l. IsFlowList l xs) rest xs
comma_reads n ys x behind rest more zs shorter few hb cut g =
    let all = ap length hb.cut ∙ length-append hb.blanks rest in
    let one : length rest ≡ suc (length more) = ap length cut in
    let r = shorter [] (ys ++ (x ∷ [])) more zs (omega (arith, all, one, few)) g in
    (r.0, r.1 ∙ append_assoc ys (x ∷ []) r.0, inr (more, cut, r.2))

-- behind a quoted item
behind_reads : (n : ℕ) (ys : List Tree) (x : Tree) (behind : List ℕ) (zs : List Tree) → Shorter n
    → length behind ≤ n → Good (at After [] (ys ++ (x ∷ []))) behind zs
    → (rest : List ℕ) × HasBlanks behind rest × (xs : List Tree) × (zs ≡ ys ++ (x ∷ xs))
    × EndsOrGoesOn (λ l. IsFlowList l xs) rest xs
behind_reads n ys x behind zs shorter few g = let r = after_reads [] (ys ++ (x ∷ [])) behind zs g in
    by r.0 r.1 r.2
  where
    by : (rest : List ℕ) → HasBlanks behind rest → ((Closes rest × ((ys ++ (x ∷ [])) ≡ zs))
        ⊎ ((more : List ℕ) × (rest ≡ 44 ∷ more) × Good (at Want [] (ys ++ (x ∷ []))) more zs))
        → (rest : List ℕ) × HasBlanks behind rest × (xs : List Tree) × (zs ≡ ys ++ (x ∷ xs))
        × EndsOrGoesOn (λ l. IsFlowList l xs) rest xs
    by rest hb (inl h) = (rest, hb, [], sym h.1, inl (h.0, refl))
    by rest hb (inr h) = let r = comma_reads n ys x behind rest h.0 zs shorter few hb h.1 h.2 in
        (rest, hb, r.0, r.1, r.2)

-- a quoted item
quoted_reads : (n quote : ℕ) (ys : List Tree) (cs : List ℕ) (zs : List Tree) (final : Flow)
    (o : Option Quoted) → Shorter n → length cs ≤ n → is_quote quote ≡ true → quoted quote cs ≡ o
    → Reads [] ys final cs o → EndsWell final zs → FromHere ys (quote ∷ cs) zs
quoted_reads n quote ys cs zs final None shorter few q e reads g = absurd (reads zs g)
quoted_reads n quote ys cs zs final (Some s) shorter few q e reads g = by s.bad refl reads
  where
    by : (b : Bool) → s.bad ≡ b → ReadsAs [] ys final cs s.text s.length b
        → FromHere ys (quote ∷ cs) zs
    by true bad r = absurd (r zs g)
    by false bad r =
        let behind = drop s.length cs in
        let less : length behind ≤ n = omega (arith, length-drop s.length cs, few) in
        let rest = behind_reads n ys (scalar s.text false) behind zs shorter less
        (record { ends = subst (λ (f : Flow). EndsWell f zs) r g }) in
        let item : IsQuotedItem (quote ∷ cs) s.text behind = record {
          quote = quote;
          body = cs;
          size = s.length;
          cut = refl;
          quotes = q;
          reads = e ∙ ap
              (λ (b : Bool). Some (record { text = s.text; length = s.length; bad = b })) bad;
          behind = refl;
        } in
        inr (scalar s.text false, behind, item, rest.0, rest.1, rest.2, rest.3, rest.4)

-- a plain item's text, without the blanks behind it
plain_item : (c : ℕ) (w rest cs : List ℕ) → is_blank_byte c ≡ false
    → is_flow_start c (slice_index cs 0) ≡ true → cs ≡ w ++ rest
    → ends_soft (slice_index rest 0) ≡ true
    → inner w (slice_index rest 0) ≡ true → ends_colon (strip (c ∷ w)) ≡ false
    → IsPlainItem (strip (c ∷ w))
plain_item c w rest cs filled start cut soft inside colon =
    let next : slice_index cs 0 ≡ slice_index (w ++ rest) 0 =
    ap (λ (l : List ℕ). slice_index l 0) cut in
    let text : strip (c ∷ w) ≡ c ∷ strip w = rw filled refl in
    let there : is_flow_start c (slice_index (strip w) 0) ≡ true = sym (begins_alike c w rest soft)
    ∙ ap (is_flow_start c) (sym next) ∙ start in
    let carries : carries_on c (head_or w (slice_index rest 0)) ≡ true =
    ap (carries_on c) (sym (next ∙ head_append w rest))
    ∙ start_carries c (slice_index cs 0) filled start in
    let whole : inner (c ∷ w) (slice_index rest 0) ≡ true =
    and_true (carries_on c (head_or w (slice_index rest 0))) (inner w (slice_index rest 0))
    carries inside in
    let split = trim_split (c ∷ w) in
    record {
      begins = ap begins_item text ∙ and_true (not (is_blank_byte c))
          (is_flow_start c (slice_index (strip w) 0)) (ap not filled) there;
      inside = goes_from (strip (c ∷ w)) split.0 (slice_index rest 0)
          (subst (λ (l : List ℕ). inner l (slice_index rest 0) ≡ true) split.1 whole) colon;
      whole = trimmed-strip (strip (c ∷ w)) ∙ trim_again (c ∷ w);
    }

-- a plain item
plain_found : (n c : ℕ) (ys : List Tree) (cs : List ℕ) (zs : List Tree) → Shorter n → length cs ≤ n
    → is_blank_byte c ≡ false → is_flow_start c (slice_index cs 0) ≡ true
    → PlainRest (c ∷ []) ys cs zs → FromHere ys (c ∷ cs) zs
plain_found n c ys cs zs shorter few filled start r = by r.ends
  where
    text : List ℕ
    text = strip (c ∷ r.word)

    blanks : List ℕ
    blanks = (trim_split (c ∷ r.word)).0

    line : c ∷ cs ≡ text ++ (blanks ++ r.rest)
    line = ap (λ (l : List ℕ). c ∷ l) r.cut
        ∙ ap (λ (l : List ℕ). l ++ r.rest) (trim_split (c ∷ r.word)).1
        ∙ append_assoc text blanks r.rest

    hb : HasBlanks (blanks ++ r.rest) r.rest
    hb = record { blanks = blanks; cut = refl; blank = (trim_split (c ∷ r.word)).2 }

    some_text : text ≡ c ∷ strip r.word
    some_text = rw filled refl

    behind_few : length (blanks ++ r.rest) ≤ n
    behind_few = let all = ap length line ∙ length-append text (blanks ++ r.rest) in
        let one : length text ≡ suc (length (strip r.word)) = ap length some_text in
        omega (arith, all, one, few)

    by : PlainEnds (c ∷ r.word) ys r.rest zs → FromHere ys (c ∷ cs) zs
    by (inl h) = let e = plain_ended (c ∷ r.word) ys Closed h.0 zs h.2 in
        let item = plain_item c r.word r.rest cs filled start r.cut
        (ap (λ (l : List ℕ). ends_soft (slice_index l 0)) h.1) r.inside e.0 in
        let end = closed_reads [] (ys ++ (scalar text true ∷ [])) h.0 zs e.1 in
        inr (
          scalar text true,
          blanks ++ r.rest,
          (line, item),
          r.rest,
          hb,
          [],
          sym end.1,
          inl (record { behind = h.0; cut = h.1; tail = end.0 }, refl),
        )
    by (inr h) = let e = plain_ended (c ∷ r.word) ys Want h.0 zs h.2 in
        let item = plain_item c r.word r.rest cs filled start r.cut
        (ap (λ (l : List ℕ). ends_soft (slice_index l 0)) h.1) r.inside e.0 in
        let r2 = comma_reads n ys (scalar text true) (blanks ++ r.rest) r.rest h.0 zs shorter
        behind_few hb h.1 e.1 in
        inr (scalar text true, blanks ++ r.rest, (line, item), r.rest, hb, r2.0, r2.1, r2.2)

-- an item, or the end of the list
from_here : (n : ℕ) (t : List ℕ) (ys : List Tree) (from : List ℕ) (zs : List Tree) → Shorter n
    → length from ≤ suc n → is_blank_byte (slice_index from 0) ≡ false → Good (at Want t ys) from zs
    → FromHere ys from zs
from_here n t ys [] zs shorter few filled g = absurd (cc g.ends.fine)
from_here n t ys (c ∷ cs) zs shorter few filled g =
    let less : length cs ≤ n = omega (arith, few) in
    pick (is_blank_byte c && slice_index cs 0 == 35) _ _ cs zs
    (λ m. never (flow_fault (at Want t ys) Over FlowForm) cs zs refl)
    (λ m. pick (is_blank_byte c) _ _ cs zs
    (λ b h. absurd (cc (sym b ∙ filled)))
    (λ b. pick (c == 93) _ _ cs zs
    (λ e h. let r = closed_reads t ys cs zs h in inl
    (record { behind = cs; cut = ap (λ (x : ℕ). x ∷ cs) (eqb-true c 93 e); tail = r.0 }, r.1))
    (λ e. pick (c == 44) _ _ cs zs
    (λ f. never (flow_fault (at Want t ys) Want FlowForm) cs zs refl)
    (λ f. pick (c == 39) _ _ cs zs
    (λ q h. subst (λ (x : ℕ). FromHere ys (x ∷ cs) zs) (sym (eqb-true c 39 q))
    (quoted_reads n 39 ys cs zs (flow (at Single [] ys) cs) (single cs) shorter less refl refl
    (single_is [] ys cs) h.ends))
    (λ q. pick (c == 34) _ _ cs zs
    (λ d h. subst (λ (x : ℕ). FromHere ys (x ∷ cs) zs) (sym (eqb-true c 34 d))
    (quoted_reads n 34 ys cs zs (flow (at Double [] ys) cs) (double cs) shorter less refl refl
    (double_is [] ys cs) h.ends))
    (λ d. pick (is_flow_start c (slice_index cs 0)) _ _ cs zs
    (λ s h. plain_found n c ys cs zs shorter less b s (plain_reads (c ∷ []) ys cs zs h))
    (λ s. never (flow_fault (at Want t ys) Broken (byte_fault c (slice_index cs 0))) cs zs
    refl)))))))
    (tail_of (at Want t ys) c cs zs g)

pub list_reads : (n : ℕ) → Shorter n
list_reads zero t ys [] zs few g = absurd (cc g.ends.fine)
list_reads zero t ys (c ∷ cs) zs few g = absurd (omega (arith, few))
list_reads (suc n) t ys cs zs few g =
    let r = want_skips t ys cs zs g in
    let all = ap length r.1.cut ∙ length-append r.1.blanks r.0 in
    by r.0 r.1 (from_here n t ys r.0 zs (list_reads n) (omega (arith, all, few)) r.2 r.3)
  where
    by : (from : List ℕ) → HasBlanks cs from → FromHere ys from zs → Outcome ys cs zs
    by from hb (inl h) = ([], sym h.1 ∙ sym (append-nil ys), (from, hb, h.0))
    by from hb (inr h) = (h.0 ∷ h.5, h.6, (from, hb, h.1, h.2, h.3, h.4, h.7))

-- THE LAW

pub list-words : (line : List ℕ) (items : List Tree) → IsFlowList line items
    → EndsWell (flow flow_start line) items
list-words line items h = (list_writes items line [] [] h).ends

pub list-bytes : (line : List ℕ) (items : List Tree) → EndsWell (flow flow_start line) items
    → IsFlowList line items
list-bytes line items h =
    let r = list_reads (length line) [] [] line items (omega arith) (record { ends = h }) in
    subst (IsFlowList line) (sym r.1) r.2

pub list-taken : (column : ℕ) (line : List ℕ) (items : List Tree) → IsFlowList line items
    → inline_value column (91 ∷ line) ≡ one_mark (value column (sequence (trees items))) None
list-taken column line items h = let e = list-words line items h in rw (e.fine, e.all) refl

pub list-only : (column : ℕ) (line : List ℕ) → (inline_value column (91 ∷ line)).fault ≡ None
    → (items : List Tree) × IsFlowList line items
list-only column line h =
    by (earlier (flow flow_start line).fault (end_fault (flow flow_start line).part)) refl
  where
    by : (o : Option ProfileFault) → earlier (flow flow_start line).fault
        (end_fault (flow flow_start line).part) ≡ o → (items : List Tree) × IsFlowList line items
    by None e = (
      (flow flow_start line).items,
      list-bytes line (flow flow_start line).items (record { fine = e; all = refl }),
    )
    by (Some w) e = absurd (cc (sym h ∙ spoilt w e))
      where
        spoilt : (w : ProfileFault)
            → earlier (flow flow_start line).fault (end_fault (flow flow_start line).part) ≡ Some w
            → (inline_value column (91 ∷ line)).fault ≡ Some w
        spoilt w e = rw e refl

-- Changes that are written one behind another are heard one after another.
use Rattle.std.proofs.Common.{◌≡◌, ◌∙◌, ℕ, List, [], ◌∷◌, ◌++◌, length, take, drop}
use Rattle.std.proofs.Common.{map}
use Rattle.std.proofs.Common.{codes, refl, sym, ap, subst, arith, append_assoc, append-nil}
use Rattle.std.proofs.Common.{inl, length-append}
use Rattle.std.specs.List.{AllByRecursion, flat_map}
use Rattle.std.proofs.Math.Seq.{drop-append_seam}
use Rattle.httparse.specs.Grammar.{HasNoRequest, MayBecomeRequest, ReadsRequest, print_blank}
use Rattle.httparse.specs.Grammar.{print_end, print_request, print_section, print_version}
use Rattle.httparse.proofs.GrammarLemmas.{print_request-append}
use Rattle.message_heads.specs.Hearing.{Hears}
use Rattle.message_heads.specs.Streams.{AreMessages, MessageIsWhole, Said}
use Rattle.message_heads.specs.declared.message.Heard.TheVariants.{More}
use Rattle.message_heads.proofs.StreamLemmas.{one_whole}
use Rattle.message_heads.proofs.WaitLemmas.{unfinished}
use Rattle.message_session.proofs.Growing.{messages_grow}
use Rattle.record_form.specs.declared.Command.{Command}
use Rattle.record_form.specs.Ranges.{Fits}
use Rattle.export_terms.specs.Texts.{text_of}
use Rattle.wire_routes.specs.Laws.{OneAnswer}
use Rattle.export_heard.specs.Heard.{AreRequestsOf, IsRequestOf}
use Rattle.export_heard.specs.Laws.{ChangesAreHeard, NothingElseIsHeard}
use Rattle.export_heard.proofs.Changes.{change_stands, change_whole, said_by}
use Rattle.export_heard.proofs.Heads.{head_by, head_is, post_token}
use Rattle.export_heard.proofs.Paths.{IsPlain}

-- NO BYTES

behind_nothing : (a b x : List ℕ) (y : ℕ) → [] ≡ a ++ (b ++ y ∷ x) → ⊥
behind_nothing a b x y e =
    let l = ap length e in
    let m = length-append a (b ++ y ∷ x) in
    let n = length-append b (y ∷ x) in
    absurd (omega (arith, l, m, n))

nothing_read : HasNoRequest []
nothing_read h rest reads =
    behind_nothing (print_blank h.blank) h.method
    (h.target ++ 32 ∷ (print_version h.minor ++ (print_end h.line_end
    ++ (print_section h.fields h.last ++ rest)))) 32 (reads.1 ∙ print_request-append h rest)

tick_plain : IsPlain (codes "/tick")
tick_plain = record { some = omega arith; short = omega arith; bytes = refl }

-- some request may come
may_come : MayBecomeRequest []
may_come =
    let h = head_by (codes "POST") (codes "/tick") 0 in
    inl (
      print_request h,
      h,
      (
        head_is (codes "POST") (codes "/tick") 0 post_token tick_plain (omega arith),
        sym (append-nil (print_request h)),
      ),
    )

more_comes : Hears [] More
more_comes m inside = unfinished [] nothing_read may_come m inside (omega arith)

-- CHANGES

all_messages : (cs : List Command) (more : List ℕ) → AllByRecursion Fits cs
    → AreMessages (flat_map text_of cs ++ more) (map said_by cs) more
all_messages [] more fits = refl
all_messages (c ∷ cs) more fits =
    let rest = flat_map text_of cs ++ more in
    let joined : (text_of c ++ flat_map text_of cs) ++ more ≡ text_of c ++ rest =
    append_assoc (text_of c) (flat_map text_of cs) more in
    subst (λ (bytes : List ℕ). AreMessages bytes (said_by c ∷ map said_by cs) more) (sym joined) (
      length (text_of c),
      change_whole c rest fits.0,
      subst (λ (bytes : List ℕ). AreMessages bytes (map said_by cs) more)
          (sym (drop-append_seam (text_of c) rest)) (all_messages cs more fits.1),
    )

all_requests : OneAnswer → (cs : List Command) → AllByRecursion Fits cs
    → AreRequestsOf (map said_by cs) cs
all_requests one [] fits = tt
all_requests one (c ∷ cs) fits = (change_stands one c fits.0, all_requests one cs fits.1)

pub changes_heard : OneAnswer → ChangesAreHeard
changes_heard one cs fits = record {
  saids = map said_by cs;
  stream = (
    subst (λ (bytes : List ℕ). AreMessages bytes (map said_by cs) [])
        (append-nil (flat_map text_of cs)) (all_messages cs [] fits),
    more_comes,
  );
  followed = λ more. all_messages cs more fits;
  requests = all_requests one cs fits;
}

-- NOTHING ELSE

no_message : (bytes : List ℕ) (n : ℕ) (said : Said) → bytes ≡ [] → MessageIsWhole bytes n said → ⊥
no_message bytes n said none is =
    let w = is.decided.within in
    let l = ap length none in
    let zero_long : n ≡ 0 = omega (arith, w, l) in
    nothing_read is.head is.body
    (subst (λ (k : ℕ). ReadsRequest (take k bytes) is.head is.body) zero_long is.reads)

only_these : (bytes : List ℕ) (saids others : List Said) (cs : List Command) (rest : List ℕ)
    → AreMessages bytes saids [] → AreRequestsOf saids cs → AreMessages bytes others rest
    → AreRequestsOf others (take (length others) cs)
only_these bytes saids [] cs rest messages requests heard = tt
only_these bytes [] (t ∷ ts) cs rest none requests (n, is, more) =
    absurd (no_message bytes n t none is)
only_these bytes (s ∷ ss) (t ∷ ts) [] rest messages requests heard = absurd requests
only_these bytes (s ∷ ss) (t ∷ ts) (c ∷ cs) rest (n, is, others) (first, requests) (m, w, more) =
    let same = one_whole bytes n m s t is w in (
      subst (λ (said : Said). IsRequestOf said c) same.1 first,
      only_these (drop m bytes) ss ts cs rest
          (subst (λ (k : ℕ). AreMessages (drop k bytes) ss []) same.0 others) requests more,
    )

pub nothing_else : NothingElseIsHeard
nothing_else taken left cs heard saids rest messages =
    only_these (taken ++ left) heard.saids saids cs (rest ++ left) heard.stream.0 heard.requests
    (messages_grow taken left saids rest messages)

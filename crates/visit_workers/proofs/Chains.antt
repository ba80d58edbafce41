-- Visits one after another.
use Rattle.std.proofs.Common.{◌≡◌, List, [], ◌∷◌, ◌++◌, length, refl, sym, ap}
use Rattle.std.proofs.Common.{subst, ◌∙◌, arith, append_assoc, append-nil, length-append}
use Rattle.std.proofs.Common.{Some, None}
use Rattle.std.specs.declared.option.Option.{Option}
use Rattle.std.proofs.lemmas.List.{map-append}
use Rattle.office_doors.specs.Books.{Book, FailsToHand, FindsNone, HandsOut, HasAllBack, HasOneOut}
use Rattle.office_doors.specs.Books.{Moves, TakesBack, WhereTold}
use Rattle.office_doors.specs.declared.Visit.{Visit}
use Rattle.office_session.specs.Messages.{Asking}
use Rattle.visit_workers.specs.Visits.{Chain, Gains, HasEnded, VisitSenses, Service, ServesVisit}
use Rattle.visit_workers.specs.Visits.{ServesVisits}
use Rattle.visit_workers.specs.Visits.{given_of, visits_of}

-- what one change after another makes of what is told
pub moves_both : {B : Type 0} (P Q R : B → B → Type 0)
    → ((a b c : B) → P a b → Q b c → R a c)
    → (a b c : Option B) → Moves P a b → Moves Q b c → Moves R a c
moves_both P Q R both None None None p q = tt
moves_both P Q R both None None (Some c) p q = absurd q
moves_both P Q R both None (Some b) c p q = absurd p
moves_both P Q R both (Some a) None c p q = absurd p
moves_both P Q R both (Some a) (Some b) None p q = absurd q
moves_both P Q R both (Some a) (Some b) (Some c) p q = both a b c p q

pub moves_to : {B : Type 0} (P : B → B → Type 0) (F G : B → Type 0)
    → ((a b : B) → F a → P a b → G b)
    → (a b : Option B) → WhereTold F a → Moves P a b → WhereTold G b
moves_to P F G to None None f p = tt
moves_to P F G to None (Some b) f p = absurd p
moves_to P F G to (Some a) None f p = absurd p
moves_to P F G to (Some a) (Some b) f p = to a b f p

pub moves_more : {B : Type 0} (P Q : B → B → Type 0) → ((a b : B) → P a b → Q a b)
    → (a b : Option B) → Moves P a b → Moves Q a b
moves_more P Q more None None p = tt
moves_more P Q more None (Some b) p = absurd p
moves_more P Q more (Some a) None p = absurd p
moves_more P Q more (Some a) (Some b) p = more a b p

pub moves_still : {B : Type 0} (P : B → B → Type 0) → ((a : B) → P a a) → (a : Option B)
    → Moves P a a
moves_still P still None = tt
moves_still P still (Some a) = still a

module _ {V : Type 0} where
  gains_none : (a : Book V) → Gains [] [] a a
  gains_none a = record {
    handed = sym (append-nil a.handed);
    back_are = sym (append-nil a.back);
    first = refl;
  }

  -- a visit goes out and comes back
  gains_one : (visit given : V) (a b c : Book V) → HandsOut visit a b → TakesBack given b c
      → Gains (visit ∷ []) (given ∷ []) a c
  gains_one visit given a b c hands takes = record {
    handed = ap (λ (k : Book V). k.handed) takes ∙ hands.handed;
    back_are = ap (λ (k : Book V). k.back) takes
        ∙ ap (λ (l : List V). l ++ given ∷ []) hands.back;
    first = hands.first ∙ ap (λ (l : List V). visit ∷ l)
        (sym (ap (λ (k : Book V). k.left) takes));
  }

  gains_end : (a b : Book V) → FindsNone a b → Gains [] [] a b
  gains_end a b none = record {
    handed = ap (λ (k : Book V). k.handed) none.same ∙ sym (append-nil a.handed);
    back_are = ap (λ (k : Book V). k.back) none.same ∙ sym (append-nil a.back);
    first = sym (ap (λ (k : Book V). k.left) none.same);
  }

  gains_fault : (a b : Book V) → FailsToHand a b → Gains [] [] a b
  gains_fault a b fails = record {
    handed = ap (λ (k : Book V). k.handed) fails ∙ sym (append-nil a.handed);
    back_are = ap (λ (k : Book V). k.back) fails ∙ sym (append-nil a.back);
    first = sym (ap (λ (k : Book V). k.left) fails);
  }

  gains_both : (out back more rest : List V) (a b c : Book V) → Gains out back a b
      → Gains more rest b c → Gains (out ++ more) (back ++ rest) a c
  gains_both out back more rest a b c first then = record {
    handed = then.handed ∙ ap (λ (l : List V). l ++ more) first.handed
        ∙ append_assoc a.handed out more;
    back_are = then.back_are ∙ ap (λ (l : List V). l ++ rest) first.back_are
        ∙ append_assoc a.back back rest;
    first = first.first ∙ ap (λ (l : List V). out ++ l) then.first
        ∙ sym (append_assoc out more c.left);
  }

  ends_book : (b c : Book V) → FindsNone b c → HasEnded c
  ends_book b c none = record {
    ended = ap (λ (k : Book V). k.ended) none.same;
    none_left = ap (λ (k : Book V). k.left) none.same ∙ none.none_left;
  }

  one_out : (b c : Book V) (visit : V) → HasAllBack b → HandsOut visit b c → HasOneOut c
  one_out b c visit all hands =
      omega (
        arith,
        all,
        ap length hands.handed,
        ap length hands.back,
        length-append b.handed (visit ∷ []),
      )

  all_back : (out back : List V) (a b : Book V) → length back ≡ length out → HasAllBack a
      → Gains out back a b → HasAllBack b
  all_back out back a b same all gains =
      omega (
        arith,
        same,
        all,
        ap length gains.handed,
        ap length gains.back_are,
        length-append a.handed out,
        length-append a.back back,
      )

  -- in words of what is told
  pub told_one_out : (b c : Option (Book V)) (visit : V) → WhereTold HasAllBack b
      → Moves (HandsOut visit) b c → WhereTold HasOneOut c
  told_one_out b c visit all hands =
      moves_to (HandsOut visit) HasAllBack HasOneOut (λ b c f p. one_out b c visit f p) b c all
      hands

  pub told_all_back : (visit given : V) (a b c : Option (Book V)) → WhereTold HasAllBack a
      → Moves (HandsOut visit) a b → Moves (TakesBack given) b c → WhereTold HasAllBack c
  told_all_back visit given a b c all hands takes =
      moves_to (Gains (visit ∷ []) (given ∷ [])) HasAllBack HasAllBack
      (λ a b f p. all_back (visit ∷ []) (given ∷ []) a b refl f p) a c all
      (moves_both (HandsOut visit) (TakesBack given) (Gains (visit ∷ []) (given ∷ []))
      (gains_one visit given) a b c hands takes)

  pub told_back_at_end : (a b : Option (Book V)) → WhereTold HasAllBack a → Moves FindsNone a b
      → WhereTold HasAllBack b
  told_back_at_end a b all none =
      moves_to FindsNone HasAllBack HasAllBack
      (λ a b f p. all_back [] [] a b refl f (gains_end a b p)) a b all none

  pub told_back_at_fault : (a b : Option (Book V)) → WhereTold HasAllBack a → Moves FailsToHand a b
      → WhereTold HasAllBack b
  told_back_at_fault a b all fails =
      moves_to FailsToHand HasAllBack HasAllBack
      (λ a b f p. all_back [] [] a b refl f (gains_fault a b p)) a b all fails

  pub told_ended : (b c : Option (Book V)) → Moves FindsNone b c → WhereTold HasEnded c
  told_ended None None none = tt
  told_ended None (Some c) none = absurd none
  told_ended (Some b) None none = absurd none
  told_ended (Some b) (Some c) none = ends_book b c none

module _ {T I O C : Type 0} (asks : Asking T) (look : VisitSenses I O C) where
  chain_both : (old : T) (services more : List (Service (Visit I O C))) (mid new : T)
      → Chain asks look old services mid → Chain asks look mid more new
      → Chain asks look old (services ++ more) new
  chain_both old [] more mid new same chain =
      subst (λ (t : T). Chain asks look t more new) same chain
  chain_both old (s ∷ ss) more mid new (next, served, rest) chain =
      (next, served, chain_both next ss more mid new rest chain)

  pub works_none : (old : T) (told : Option (Book (Visit I O C)))
      → ServesVisits asks look old old told told
  works_none old told = record {
    services = [];
    chain = refl;
    book = moves_still (Gains [] []) gains_none told;
  }

  -- one visit
  pub works_one : (old new : T) (a b c : Option (Book (Visit I O C))) (visit given : Visit I O C)
      → Moves (HandsOut visit) a b → ServesVisit asks look visit given old new
      → Moves (TakesBack given) b c → ServesVisits asks look old new a c
  works_one old new a b c visit given hands serves takes = record {
    services = record { visit = visit; given = given } ∷ [];
    chain = (new, serves, refl);
    book = moves_both (HandsOut visit) (TakesBack given) (Gains (visit ∷ []) (given ∷ []))
        (gains_one visit given) a b c hands takes;
  }

  pub works_end : (old : T) (a b : Option (Book (Visit I O C))) → Moves FindsNone a b
      → ServesVisits asks look old old a b
  works_end old a b none = record {
    services = [];
    chain = refl;
    book = moves_more FindsNone (Gains [] []) gains_end a b none;
  }

  pub works_fault : (old : T) (a b : Option (Book (Visit I O C))) → Moves FailsToHand a b
      → ServesVisits asks look old old a b
  works_fault old a b fails = record {
    services = [];
    chain = refl;
    book = moves_more FailsToHand (Gains [] []) gains_fault a b fails;
  }

  -- more visits behind those that were served
  pub works_both : (old mid new : T) (a b c : Option (Book (Visit I O C)))
      → ServesVisits asks look old mid a b → ServesVisits asks look mid new b c
      → ServesVisits asks look old new a c
  works_both old mid new a b c first then = record {
    services = first.services ++ then.services;
    chain = chain_both old first.services then.services mid new first.chain then.chain;
    book = subst (λ (out : List (Visit I O C)).
        Moves (Gains out (given_of (first.services ++ then.services))) a c)
        (sym (map-append (λ (s : Service (Visit I O C)). s.visit) first.services then.services))
        (subst (λ (back : List (Visit I O C)).
        Moves (Gains (visits_of first.services ++ visits_of then.services) back) a c)
        (sym (map-append (λ (s : Service (Visit I O C)). s.given) first.services then.services))
        (moves_both (Gains (visits_of first.services) (given_of first.services))
        (Gains (visits_of then.services) (given_of then.services))
        (Gains (visits_of first.services ++ visits_of then.services)
        (given_of first.services ++ given_of then.services))
        (gains_both (visits_of first.services) (given_of first.services)
        (visits_of then.services) (given_of then.services)) a b c first.book then.book));
  }

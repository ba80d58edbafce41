-- `and` picks one value more. Assumes `Logic`.
use Rattle.std.proofs.Common.{◌≡◌, [], ◌∷◌, ◌++◌, refl}
use mir.Syntax.{a_type, named}
use mir.Val.{Val, vptr}
use mir.MapTy.{inst_fn}
use base.Logic.{SProp, emp}
use types.Kit.{‵, raw, ◌⊛◌, ◌$◌, ◌∵◌, !, qed, by, keep, split, fjoin, use0}
use types.Run.{no_more, and_then, returns, enter}
use types.ByLocal.{alloc_all, pass_all, free_all, look_at, get, sets}
use types.Part.{agg}
use contract.Monad.{fact, fact_i}
use contract.Running.{tables}
use denote.Exit.{yes}
use denote.RattleType.{RattleType, owns}
use denote.Builtin.{RefOf}
use denote.Ref.{shr_vals, shr_Tells}
use denote.Signature.{types_at, plain}
use denote.Steps.{nothing}
use denote.Param.{param, layouts}
use denote.Triple.Entry.{alive}
use denote.Triple.Walked.{Stays, walk_of, stay_dropped, Goes-dropped}
use Rattle.std.proofs.raw_atomic.Walks.{proved, leaves}
use Rattle.office_doors.specs.contracts.given.Given as given
use Rattle.office_doors.proofs.Tokens.{token, Data, made}
use Rattle.office_doors.specs.contracts.given.Given.and.{ended, clauses}
use Rattle.office_doors.specs.contracts.given.Given.and.Key.{name as #self}
use Rattle.office_doors.proofs.given.Given.and.Statement.{statement}
use Rattle.office_doors.proofs.given.Given.and.Code as code

pub and_spec : {M : Type 1} → statement M
and_spec 𝓤 𝓛 𝓜 𝓡 wired U _ =
    let H = 𝓛.H in let 𝓣 = tables 𝓤 H 𝓜 𝓡 𝓡.env in let W : RattleType = param 0 U in
    let En = ended U in let c = clauses U 𝓛 𝓜.mem 𝓡.returns in
    let inst = layouts (a_type ∷ []) (U, tt) in let fn = inst_fn inst code.function in
    let closed = code.unfolded 𝓤 H 𝓜 𝓡 wired (U, tt) in let Row : RattleType = given.the_row W in
    let self = RefOf (0 ∷ []) tt (plain (λ _. Row)) (λ _. tt) in
    let value = RefOf (1 ∷ []) tt (plain (λ _. W)) (λ _. tt) in
    let hs : Stays En.signature.params En.kept =
    (stay_dropped self yes, (stay_dropped value yes, tt)) in
    proved 𝓛 En hs c 𝓜 𝓡 (
      Goes-dropped 𝓛 3 self yes (λ κs x f. refl),
      (Goes-dropped 𝓛 3 value yes (λ κs x f. refl), tt),
    ) (#self inst) fn closed
    (λ κs. (shr_vals, (shr_vals, tt))) (λ κs. (
      shr_Tells (named 0) κs.0 Row,
      (shr_Tells (named 1) κs.1.0 W, tt),
    )) (λ κs qs bounds a gh are.
    let r : Row.Denot = record { marker = record {}; items = a.0.now.items ++ a.1.0.now ∷ [] } in
    let Told : Type 0 = r.items ≡ a.0.now.items ++ a.1.0.now ∷ [] in
    let u : Val = vptr a.0.ref_ptr.0 a.0.ref_ptr.1 in
    let v : Val = vptr a.1.0.ref_ptr.0 a.1.0.ref_ptr.1 in
    let y : (walk_of 𝓛 En hs c).Ghost = ((κs, qs, bounds, a, (u ∷ [], (v ∷ [], tt))), gh) in
    let Post : Val → SProp 𝓤 = (walk_of 𝓛 En hs c).post y in
    qed 𝓛 ((raw (alive 𝓛 En.signature κs qs) ⊛ ‵ (owns (types_at En.signature.params κs) a y.0.4))
    ∷ raw ((c κs a).requires gh) ∷ []) ∵
    split ! $ keep ! (0 ∷ []) $ nothing ! $ use0 𝓛 (‵ (Data 𝓛 W)) (made 𝓛 W) $ fjoin ! $
    enter ! 𝓣.C 𝓣.Λ fn (u ∷ v ∷ []) Post
    $ alloc_all ! (λ l. pass_all ! refl ((tt, tt), ((tt, tt), tt)) $
    sets ! (agg ! (no_more !)) refl (
      tt,
      tt,
    ) $ sets ! (agg ! (and_then ! (get ! refl) (no_more !))) refl (tt, (tt, tt)) $
    use0 𝓛 (raw (fact 𝓤 Told)) (fact_i 𝓤 Told (emp 𝓤) refl) $ nothing ! $ nothing ! $ fjoin !
    $ nothing ! $ fjoin ! $
    returns ! (look_at ! 0 refl) $ free_all ! refl $ keep ! (3 ∷ 0 ∷ 2 ∷ 1 ∷ [])
    $ by ! (leaves 𝓛 En hs c y token r (tt, (tt, tt)) (tt, (tt, tt)))))

use Rattle.std.proofs.Common.{◌≡◌, ◌∙◌, ap, subst, None, Some}
use Rattle.matchit.specs.Router.{RouteOf}
use Rattle.matchit.specs.Seek.{first}
use Rattle.wire_routes.specs.Readers.{place_by}
use Rattle.wire_routes.specs.declared.place.Route.{Route}
use Rattle.wire_routes.proofs.RouteLemmas.{found_none, found_some}
use Rattle.wire_routes.proofs.find.Routes.find.Goals as goal

pub returns-in-Ok : goal.returns-in-Ok
returns-in-Ok c =
    let m = c.in-Ok.found in
    let r : RouteOf Route = record {
      pattern = m.params.pattern.now;
      text = m.params.text.now;
      names = m.params.names.now;
      value = m.value.now;
    } in
    found_some c.args.path.now r c.place_by.result
    (subst (λ t. first t c.args.path.now ≡ Some r) c.args.self.now.table c.in-Ok.ensures.found)
    (c.place_by.ensures ∙ ap (place_by m.value.now) c.as_bytes.ensures.value)

pub returns-in-Err : goal.returns-in-Err
returns-in-Err c = found_none c.args.path.now
    (subst (λ t. first t c.args.path.now ≡ None) c.args.self.now.table c.in-Err.ensures.missing)

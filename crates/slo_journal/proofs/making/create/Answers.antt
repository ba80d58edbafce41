use Rattle.std.proofs.Common.{◌≡◌, ◌≤◌, inl, inr, subst, sym, rules}
use Rattle.office_outside.specs.Disk.{All}
use Rattle.office_outside.specs.Faults.{Rose}
use Rattle.slo_journal.specs.Front.{IsFront, IsFree}
use Rattle.slo_journal.proofs.Fronts.{front_of_images, front_none}
use Rattle.slo_journal.proofs.making.create.Goals as goal

pub returns-in-Header-clause-already_there : goal.returns-in-Header-clause-already_there
returns-in-Header-clause-already_there g c same file told = (
  c.in-Header.field-0,
  subst (λ f. IsFront f file) c.in-Header.is (c.in-Ok.ensures.front file told),
)

pub returns-in_default-make : goal.returns-in_default-make
returns-in_default-make g c =
    let free : All (IsFree c.in-Ok.front) (g.D.Disk.senses.images c.look_at_front.new.disk) =
    front_of_images c.in-Ok.front (g.D.Disk.senses.content c.args.disk)
    (g.D.Disk.senses.images c.look_at_front.new.disk) c.in_default-front.not-Header
    c.in-Ok.ensures.front c.in-Ok.ensures.only in
    record {
      made = tt;
      none_before = tt;
      moments = tt;
      already_there = λ same. absurd (cc same);
      untouched = λ same. absurd (cc same);
      fault = λ same. inr (record {
        none_before = λ file told. front_none c.in-Ok.front file c.in_default-front.not-Header
            (c.in-Ok.ensures.front file told);
        between = c.look_at_front.new.disk;
        before = c.look_at_front.ensures.quiet;
        after = c.make.ensures.any_moment free;
      });
      cause = search rules;
      later = tt;
      later_err = search rules;
    }

pub returns : goal.returns
returns g c =
    let free : All (IsFree c.in-Ok.front) (g.D.Disk.senses.images c.look_at_front.new.disk) =
    front_of_images c.in-Ok.front (g.D.Disk.senses.content c.args.disk)
    (g.D.Disk.senses.images c.look_at_front.new.disk) c.in_default-front.not-Header
    c.in-Ok.ensures.front c.in-Ok.ensures.only in
    let same : c.new.result.disk ≡ c.make.new.disk = search rules in
    record {
      made = record {
        tail = search rules;
        none = search rules;
        each =
            λ f im. c.in-Ok-make.ensures.stands free f
            (subst (λ d. g.D.Disk.senses.images d f) same im);
      };
      none_before = λ file told. front_none c.in-Ok.front file c.in_default-front.not-Header
          (c.in-Ok.ensures.front file told);
      moments = record {
        none_before = λ file told. front_none c.in-Ok.front file c.in_default-front.not-Header
            (c.in-Ok.ensures.front file told);
        between = c.look_at_front.new.disk;
        before = c.look_at_front.ensures.quiet;
        after = rw (same) (c.make.ensures.any_moment free);
      };
      already_there = tt;
      untouched = tt;
      fault = tt;
      cause = tt;
      later = search rules;
      later_err = tt;
    }

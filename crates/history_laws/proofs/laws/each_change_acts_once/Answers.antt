use Rattle.history_laws.proofs.OnceLemmas.{changes_act_once}
use Rattle.history_laws.proofs.laws.each_change_acts_once.Goals as goal

pub returns : goal.returns
returns c =
    changes_act_once (record {
      batch = c.a_batch_acts_once.ensures.same;
      zone = c.a_zone_acts_once.ensures;
      exclusion = c.an_exclusion_acts_once.ensures;
      lifting = c.a_lifting_acts_once.ensures;
      taking = c.a_taking_acts_once.ensures;
      upgrade = c.an_upgrade_acts_once.ensures;
    })

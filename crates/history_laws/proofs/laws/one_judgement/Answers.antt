use Rattle.history_laws.proofs.JudgementLemmas as lemmas
use Rattle.history_laws.proofs.laws.one_judgement.Goals as goal

pub returns : goal.returns
returns c =
    lemmas.one_judgement (record {
      refusal = c.one_verdict.ensures.refusal;
      definition = c.one_verdict.ensures.definition;
      either = c.one_verdict.ensures.either;
    })

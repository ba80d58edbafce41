use Rattle.yaml_terms.specs.SpellingView.{spelling_view}
use Rattle.yaml_writing.proofs.WriteLemmas.{where_ok, stands_alone}
use Rattle.yaml_terms.proofs.Failures.{no_on}
use Rattle.yaml_writing.proofs.write.write_spelling.Goals as goal

pub returns-clause-alone : goal.returns-clause-alone
returns-clause-alone c = where_ok c.extend_from_slice.result _
    (stands_alone c.args.indent (spelling_view c.args.value.now) c.requires)

pub returns-in_err-write_spaces-clause-exact : goal.returns-in_err-write_spaces-clause-exact
returns-in_err-write_spaces-clause-exact c =
    no_on _ _ c.from_residual.result c.from_residual.ensures.1

pub returns-in_err-write_spaces-clause-alone : goal.returns-in_err-write_spaces-clause-alone
returns-in_err-write_spaces-clause-alone c =
    no_on _ _ c.from_residual.result c.from_residual.ensures.1

pub returns-in_err-write_value-clause-exact : goal.returns-in_err-write_value-clause-exact
returns-in_err-write_value-clause-exact c =
    no_on _ _ c.from_residual-in_err-write_value.result c.from_residual-in_err-write_value.ensures.1

pub returns-in_err-write_value-clause-alone : goal.returns-in_err-write_value-clause-alone
returns-in_err-write_value-clause-alone c =
    no_on _ _ c.from_residual-in_err-write_value.result c.from_residual-in_err-write_value.ensures.1

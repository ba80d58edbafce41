-- The line for each ending on the faults sink.
use Rattle.std.specs.Prelude.{ℕ, List, [], ◌++◌, codes, ◌==◌, if◌then◌else◌}
use Rattle.budget_command.specs.Words as budget
use Rattle.check_command.specs.Words as check
use Rattle.check_command.specs.declared.CheckError.{CheckError}
use Rattle.check_command.specs.declared.CheckError.TheVariants as check_error
use Rattle.office_run.specs.declared.ending.AnswerError.{AnswerError}
use Rattle.office_run.specs.declared.ending.AnswerError.TheVariants as answer_errors
use Rattle.office_run.specs.declared.ending.RunRefusal.{RunRefusal}
use Rattle.office_run.specs.declared.ending.RunRefusal.TheVariants.{Budget, Check}
use Rattle.office_run.specs.declared.ending.TheConstants.{USAGE, DISK_FAULT, READ_FAULT}
use Rattle.office_run.specs.declared.ending.TheConstants.{DOORS_FAULT, WRITE_FAULT, NO_MEMORY}

-- why there are no lines to print, by the error of `check`
abbrev pub answer_error_of : CheckError → AnswerError
answer_error_of (check_error.Fault refusal) = answer_errors.Refused (Check refusal)
answer_error_of check_error.NoMemory = answer_errors.NoMemory

-- the words for an input that is refused, by the command that refuses it
abbrev pub refusal_words_of : RunRefusal → List ℕ
refusal_words_of (Budget fault) = budget.words_of_fault fault
refusal_words_of (Check fault) = check.words_of_refusal fault

-- the line for an input that is refused
abbrev pub refusal_line_of : RunRefusal → List ℕ
refusal_line_of refusal = codes "slo_office: " ++ (refusal_words_of refusal ++ codes "\n")

-- the line for a status without further words
abbrev pub line_of_status : ℕ → List ℕ
line_of_status status =
    if status == USAGE then codes "slo_office: usage\n"
    else if status == DISK_FAULT then codes "slo_office: disk fault\n"
    else if status == READ_FAULT then codes "slo_office: read fault\n"
    else if status == WRITE_FAULT then codes "slo_office: write fault\n"
    else if status == NO_MEMORY then codes "slo_office: no memory\n"
    else if status == DOORS_FAULT then codes "slo_office: doors fault\n"
    else []

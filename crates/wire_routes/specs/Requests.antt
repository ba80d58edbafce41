-- The request that a message stands for, or the answer that it gets without the office.
use Rattle.std.specs.Prelude.{◌≡◌, ℕ, List, Option, Some, None, Result, Ok, Err}
use Rattle.message_heads.specs.Streams.{Said}
use Rattle.message_heads.specs.Targets.{path_of, query_of}
use Rattle.record_form.specs.declared.command.Command.TheVariants.{Define, Remove, PutZone, Samples}
use Rattle.record_form.specs.declared.command.Command.TheVariants.{Exclude, Lift, Tick, Take}
use Rattle.record_form.specs.declared.command.Command.TheVariants.{Upgrade}
use Rattle.record_form.specs.declared.query.Query.{Query}
use Rattle.record_form.specs.declared.query.Query.TheVariants as ask
use Rattle.record_form.specs.declared.query.Request.{Request}
use Rattle.record_form.specs.declared.query.Request.TheVariants.{Change, Ask}
use Rattle.sample_book.specs.declared.row.Row.{Row}
use Rattle.sample_book.specs.declared.exclusions.Exclusion.{Exclusion}
use Rattle.wire_terms.specs.declared.no_request.Allow.TheVariants as allow
use Rattle.wire_terms.specs.declared.no_request.NoRequest.{NoRequest}
use Rattle.wire_terms.specs.declared.no_request.NoRequest.TheVariants as no_request
use Rattle.wire_routes.specs.declared.method.Method.{Method}
use Rattle.wire_routes.specs.declared.method.Method.TheVariants.{Delete, Get, Post, Put}
use Rattle.wire_routes.specs.declared.place.Place.{Place}
use Rattle.wire_routes.specs.declared.place.Place.TheVariants as place
use Rattle.wire_routes.specs.declared.routed.Routed.{Routed}
use Rattle.wire_routes.specs.declared.routed.Routed.TheVariants as routed
use Rattle.wire_routes.specs.Exclusions.{exclusion_of}
use Rattle.wire_routes.specs.Keys.{budgets_keys, burns_keys, entries_keys, stretch_keys}
use Rattle.wire_routes.specs.Keys.{sums_keys}
use Rattle.wire_routes.specs.Methods.{method_of}
use Rattle.wire_routes.specs.Places.{Finds}
use Rattle.wire_routes.specs.Samples.{samples_of}

-- a request, or why there is none
abbrev pub Answer : Type 0
Answer = Result Request NoRequest

-- A route that has no keys has no query either.
abbrev pub without_keys : Option (List ℕ) → Answer → Answer
without_keys None answer = answer
without_keys (Some query) answer = Err no_request.Query

-- what is asked with the keys, where the query is of their form
abbrev pub with_keys : {A : Type 0} → (A → Query) → Option A → Answer
with_keys question None = Err no_request.Query
with_keys question (Some keys) = Ok (Ask (question keys))

-- rows, or the number of the first record that is none
abbrev pub samples_answer : Result (List Row) ℕ → Answer
samples_answer (Ok rows) = Ok (Change (Samples rows))
samples_answer (Err number) = Err (no_request.Record number)

abbrev pub exclusion_answer : Option Exclusion → Answer
exclusion_answer None = Err no_request.Body
exclusion_answer (Some exclusion) = Ok (Change (Exclude exclusion))

-- The table of routes: what each method of a path asks, of its query and its body. Other methods
-- are refused with the path's own, then a query that isn't of its keys and forms, then a body that
-- isn't of its form. Bodies of other rows aren't looked at.
abbrev pub answer_at : Place → Method → Option (List ℕ) → List ℕ → Answer
answer_at place.Objects Post query body = without_keys query (Ok (Change (Define body)))
answer_at place.Objects Get query body = without_keys query (Ok (Ask ask.Objects))
answer_at place.Objects _ query body = Err (no_request.Method allow.PostGet)
answer_at (place.Object kind name) Get query body =
    without_keys query (Ok (Ask (ask.Object kind name)))
answer_at (place.Object kind name) Delete query body =
    without_keys query (Ok (Change (Remove kind name)))
answer_at (place.Object kind name) _ query body = Err (no_request.Method allow.GetDelete)
answer_at (place.Zone name) Put query body = without_keys query (Ok (Change (PutZone name body)))
answer_at (place.Zone name) _ query body = Err (no_request.Method allow.Put)
answer_at place.Samples Post query body = without_keys query (samples_answer (samples_of body))
answer_at place.Samples _ query body = Err (no_request.Method allow.Post)
answer_at (place.Exclusion id) Put query body =
    without_keys query (exclusion_answer (exclusion_of id body))
answer_at (place.Exclusion id) Delete query body = without_keys query (Ok (Change (Lift id)))
answer_at (place.Exclusion id) _ query body = Err (no_request.Method allow.PutDelete)
answer_at place.Tick Post query body = without_keys query (Ok (Change Tick))
answer_at place.Tick _ query body = Err (no_request.Method allow.Post)
answer_at place.Notices Get query body = without_keys query (Ok (Ask ask.Notices))
answer_at place.Notices _ query body = Err (no_request.Method allow.Get)
answer_at (place.Take number) Post query body = without_keys query (Ok (Change (Take number)))
answer_at (place.Take number) _ query body = Err (no_request.Method allow.Post)
answer_at place.Upgrade Post query body = without_keys query (Ok (Change Upgrade))
answer_at place.Upgrade _ query body = Err (no_request.Method allow.Post)
answer_at (place.Budgets slo) Get query body =
    with_keys (λ at. ask.Budgets slo at) (budgets_keys query)
answer_at (place.Budgets slo) _ query body = Err (no_request.Method allow.Get)
answer_at (place.Burns slo objective) Get query body =
    with_keys (λ k. ask.Burn slo objective k.0 k.1) (burns_keys query)
answer_at (place.Burns slo objective) _ query body = Err (no_request.Method allow.Get)
answer_at (place.Alerts slo objective policy) Get query body =
    with_keys (λ k. ask.Timeline slo objective policy k.0 k.1) (stretch_keys query)
answer_at (place.Alerts slo objective policy) _ query body = Err (no_request.Method allow.Get)
answer_at place.Entries Get query body = with_keys (λ from. ask.Entries from) (entries_keys query)
answer_at place.Entries _ query body = Err (no_request.Method allow.Get)
answer_at (place.Row sli source minute) Get query body =
    without_keys query (Ok (Ask (ask.Row sli source minute)))
answer_at (place.Row sli source minute) _ query body = Err (no_request.Method allow.Get)
answer_at place.Exclusions Get query body = without_keys query (Ok (Ask ask.Exclusions))
answer_at place.Exclusions _ query body = Err (no_request.Method allow.Get)
answer_at place.Zones Get query body = without_keys query (Ok (Ask ask.Zones))
answer_at place.Zones _ query body = Err (no_request.Method allow.Get)
answer_at place.Status Get query body = without_keys query (Ok (Ask ask.Status))
answer_at place.Status _ query body = Err (no_request.Method allow.Get)
answer_at (place.Sums slo objective) Get query body =
    with_keys (λ k. ask.Sums slo objective k.0 k.1 k.2) (sums_keys query)
answer_at (place.Sums slo objective) _ query body = Err (no_request.Method allow.Get)
answer_at (place.Windows slo) Get query body =
    with_keys (λ k. ask.Windows slo k.0 k.1) (stretch_keys query)
answer_at (place.Windows slo) _ query body = Err (no_request.Method allow.Get)

-- a path without a route comes first of all
abbrev pub answer_of : Option Place → Said → Answer
answer_of None said = Err no_request.NotFound
answer_of (Some p) said = answer_at p (method_of said.method) (query_of said.target) said.body

-- the message stands for that answer, by what its path names
abbrev pub StandsFor : Said → Answer → Type 0
StandsFor said answer = (named : Option Place) × Finds (path_of said.target) named
    × (answer ≡ answer_of named said)

-- what was routed is the answer; memory may run out anywhere
abbrev pub IsRoutedAs : Answer → Routed → Type 0
IsRoutedAs answer (routed.Request request) = answer ≡ Ok request
IsRoutedAs answer (routed.NoRequest reason) = answer ≡ Err reason
IsRoutedAs answer routed.NoMemory = Unit {0}

-- what was routed is what the message stands for
abbrev pub IsRouted : Said → Routed → Type 0
IsRouted said (routed.Request request) = StandsFor said (Ok request)
IsRouted said (routed.NoRequest reason) = StandsFor said (Err reason)
IsRouted said routed.NoMemory = Unit {0}

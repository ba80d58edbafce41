-- The kind that the body of an object is of (OpenSLO v1, general schema: `kind` and `spec`).
use Rattle.object_terms.specs.declared.Kind.{Kind}
use Rattle.object_terms.specs.declared.Kind.TheVariants as kinds
use Rattle.object_terms.specs.declared.Body.{Body}
use Rattle.object_terms.specs.declared.Body.TheVariants as bodies

abbrev pub kind_of : Body → Kind
kind_of (bodies.DataSource source) = kinds.DataSource
kind_of (bodies.Service service) = kinds.Service
kind_of (bodies.Sli sli) = kinds.Sli
kind_of (bodies.Slo slo) = kinds.Slo
kind_of (bodies.AlertPolicy policy) = kinds.AlertPolicy
kind_of (bodies.AlertCondition condition) = kinds.AlertCondition
kind_of (bodies.AlertNotificationTarget target) = kinds.AlertNotificationTarget

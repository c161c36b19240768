use native.Mathlib.Omega.{arith}
use mathlib.Core.Path.{refl, sym, ◌∙◌}
use Rattle.spec_fields.specs.Refusal.{number_of}
use Rattle.spec_exi.specs.Sizes.{max_values}
use Rattle.read_field.proofs.View.{refusal-some}
use Rattle.read_partition.proofs.Fields.{passed-on}
use Rattle.read_partition.proofs.Literals.{laid-room}
use Rattle.read_partition.proofs.Posts.{literal-refused}
use Rattle.read_values.specs.Values.{value_role}
use Rattle.read_values.proofs.Bounds.{seek-asks}
use Rattle.read_values.proofs.News.{new-within}
use Rattle.read_values.proofs.News.{new-loose, new-stays, new-full, new-joins}
use Rattle.read_values.proofs.new_value.Goals as goal

pub read_literal-requires : goal.read_literal-requires
read_literal-requires c = c.requires.literal

pub returns-in_err-read-clause-value_post : goal.returns-in_err-read-clause-value_post
returns-in_err-read-clause-value_post c =
    rw (passed-on c.from_residual.ensures.1, c.in_err-read.ensures.kept)
    (λ a owner. literal-refused (value_role owner) c.in_err-read.ensures.read (refusal-some _))

pub seek-requires : goal.seek-requires
seek-requires c = seek-asks c.requires c.in_ok-read.ensures.read refl

pub dropped-requires : goal.dropped-requires
dropped-requires c = laid-room c.requires.literal c.in_ok-read.ensures.read refl

pub returns-in-Some-clause-value_post : goal.returns-in-Some-clause-value_post
unfolding number_of
returns-in-Some-clause-value_post c =
    rw c.dropped.ensures.stopped
    (λ a owner. new-loose c.requires c.in_ok-read.ensures.read refl c.in-Some.ensures
    (λ z. absurd (omega (arith, z))) c.dropped.ensures.cleared.text-is)

pub laid-requires : goal.laid-requires
laid-requires c = c.in_ok-read.ensures.read.ends refl

pub returns-then-not-joins-clause-value_post : goal.returns-then-not-joins-clause-value_post
returns-then-not-joins-clause-value_post c =
    rw c.laid.ensures
    (λ a owner. new-stays c.requires c.in_ok-read.ensures.read refl c.in_default.ensures refl
    (sym c.joins.ensures ∙ c.if-not-joins.true))

pub dropped-requires-then-capacity-values : goal.dropped-requires-then-capacity-values
dropped-requires-then-capacity-values c =
    laid-room c.requires.literal c.in_ok-read.ensures.read refl

pub returns-then-capacity-values-clause-value_post : goal.returns-then-capacity-values-clause-value_post
unfolding number_of max_values
returns-then-capacity-values-clause-value_post c =
    rw c.dropped-then-capacity-values.ensures.stopped
    (λ a owner. new-full c.requires c.in_ok-read.ensures.read refl c.in_default.ensures refl
    (sym c.joins.ensures ∙ c.if-not-joins.false) c.if-capacity-values.true
    c.dropped-then-capacity-values.ensures.cleared.text-is)

pub laid-requires-2 : goal.laid-requires-2
laid-requires-2 c = c.in_ok-read.ensures.read.ends refl

pub returns-clause-value_post : goal.returns-clause-value_post
unfolding max_values
returns-clause-value_post c =
    rw c.laid-2.ensures
    (λ a owner. new-joins c.requires c.in_ok-read.ensures.read refl c.in_default.ensures refl
    (sym c.joins.ensures ∙ c.if-not-joins.false) c.if-capacity-values.false)

pub returns-clause-joins_within : goal.returns-clause-joins_within
returns-clause-joins_within c =
    rw c.laid-2.ensures
    (new-within c.requires c.in_ok-read.ensures.read refl c.args.longest c.args.capacity
    (sym c.joins.ensures ∙ c.if-not-joins.false))

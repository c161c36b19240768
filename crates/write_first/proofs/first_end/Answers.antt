use Rattle.grammar_codes.specs.Table.{place_as}
use Rattle.write_event.proofs.Places.{some-level}
use Rattle.write_first.proofs.Unnamed.{end-growth, end-limit, end-code, end_after, end-grow}
use Rattle.write_first.proofs.Unnamed.{end-written}
use Rattle.write_first.proofs.First.{first-shape}
use mathlib.Core.Path.{refl}
use Rattle.spec_fields.specs.Refusal.{number_of}
use Rattle.settings.specs.Meant.{settings_from}
use Rattle.event.specs.declared.Event.TheVariants.{EndElement}
use Rattle.event.specs.Cells.{meaning}
use Rattle.spec_exi.specs.Grammar.{kind_number}
use Rattle.spec_exi.specs.Event.{kind_of}
use borrow.Author.Rules.{rules}
use Rattle.write_first.proofs.first_end.Goals as goal

pub returns-in_default : goal.returns-in_default
unfolding place_as settings_from kind_of meaning kind_number number_of
returns-in_default c =
    rw c.answer.ensures
    (λ opening text. first-shape c.requires opening text _ EndElement refl
    c.in_default.ensures.is refl)

pub growth-g-requires : goal.growth-g-requires
growth-g-requires c =
    end-growth c.requires c.no_strings-s.ensures

pub returns-then-not-fits : goal.returns-then-not-fits
unfolding settings_from number_of
returns-then-not-fits c =
    rw c.answer-then-not-fits.ensures
    (end-limit c.requires _ c.in-Some.ensures.is (some-level c.in-Some.ensures.low)
    c.no_strings-s.ensures c.code_here-code.ensures c.growth-g.ensures
    c.fits.ensures c.if-not-fits.true-raw)

pub put_code-at-requires : goal.put_code-at-requires
unfolding settings_from
put_code-at-requires c =
    end-code c.requires _ c.in-Some.ensures.is (some-level c.in-Some.ensures.low)
    c.no_strings-s.ensures c.code_here-code.ensures c.growth-g.ensures
    c.fits.ensures c.if-not-fits.false-raw

pub grow-requires : goal.grow-requires
grow-requires c =
    end-grow c.requires c.no_strings-s.ensures c.code_here-code.ensures
    c.growth-g.ensures c.fits.ensures c.if-not-fits.false-raw c.in-Some.ensures.is
    (some-level c.in-Some.ensures.low)

pub after-core-requires : goal.after-core-requires
after-core-requires c =
    end_after c.requires c.no_strings-s.ensures c.code_here-code.ensures
    c.growth-g.ensures c.fits.ensures c.if-not-fits.false-raw c.in-Some.ensures.is
    (some-level c.in-Some.ensures.low)

pub returns : goal.returns
unfolding settings_from
returns c =
    rw c.answer-2.ensures
    (end-written c.requires _ c.in-Some.ensures.is (some-level c.in-Some.ensures.low)
    c.no_strings-s.ensures c.code_here-code.ensures c.growth-g.ensures
    c.fits.ensures c.if-not-fits.false-raw c.put_code-at.ensures c.grow.ensures
    c.after-core.ensures)

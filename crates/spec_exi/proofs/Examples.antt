-- The worked examples hold, by computation.
use mathlib.Core.Path.{◌≡◌, refl, sym, ◌∙◌, ap}
use mathlib.Core.List.{List, [], ◌∷◌, map, map-map}
use lib.Dec.{T}
use Rattle.spec_fields.proofs.Examples.{field-examples}
use Rattle.spec_fields.proofs.Refusal.{numbered}
use Rattle.spec_fields.proofs.Tests.{left, right}
use Rattle.text.specs.Text.{eq_text}
use Rattle.text.proofs.Equal.{eq_text-eq}
use Rattle.text.proofs.Examples.{name-examples}
use Rattle.spec_exi.specs.Lists.{every}
use Rattle.spec_exi.specs.Writer.{write_reply}
use Rattle.spec_exi.specs.Examples.{Example, strict_for, Hold, Replied}
use Rattle.spec_exi.specs.Examples.Scope.{K, KReplies}
use Rattle.spec_exi.specs.Examples.Streams.{mistakes, kept}
use Rattle.spec_exi.specs.Examples.Places.{layout_of, store_with, Lie, at, in_uri, named}
use Rattle.spec_exi.specs.Examples.Places.{laid_out}
use Rattle.spec_exi.specs.Examples.Refusals.{orders, then_characters, refusals}
use Rattle.spec_exi.specs.Examples.Bounds.{sizes_as, only, bound, RefusedUnder, rewritten}
use Rattle.spec_exi.specs.Examples.Bounds.{sum_under, Bounded, bounds, bounds_in_order}
use Rattle.spec_exi.specs.Examples.Numbers.{setting, meaningless, reader_room, writer_room}
use Rattle.spec_exi.specs.Examples.Numbers.{reader_rooms, writer_rooms, Pinned}
use Rattle.spec_exi.specs.Examples.Written.{written_for, Written, WriteReplied, wrote, listed, listed_in}
use Rattle.spec_exi.specs.Examples.Written.{writes, write_replies, WrittenUnder, second_value}
use Rattle.spec_exi.specs.Examples.Written.{writes_in_order}
use Rattle.spec_exi.specs.Examples.Attributes.{then_octets, equal_read, then_events}
use Rattle.spec_exi.specs.Examples.Attributes.{equal_written}
use Rattle.spec_exi.specs.Examples.Names.{InitialNames, after_comment, after_instruction}
use Rattle.spec_exi.specs.Examples.Names.{before, names_read, texts_read, element, keeping}
use Rattle.spec_exi.specs.Examples.Names.{names_written, names_in_order}
use Rattle.spec_exi.specs.Examples.Fragments.{in_pieces, fragments_read, pieced}
use Rattle.spec_exi.specs.Examples.Fragments.{fragments_written}
use Rattle.spec_exi.specs.Examples.Values.{longest_of, room_for, in_a, letters, within, in_b}
use Rattle.spec_exi.specs.Examples.Values.{bounded_read, replied_under, wrote_under}
use Rattle.spec_exi.specs.Examples.Values.{BoundedSizes}
use Rattle.spec_exi.specs.Examples.Pieces.{Tell, pieces}
use Rattle.spec_exi.specs.Examples.All.{WorkedExamples}
use Rattle.spec_exi.proofs.Definitions.{definitions}

-- Streams that a test finds equal are equal. (The test computes each stream once.)
same-streams : (xs : List Example) → T (every (λ x. eq_text (strict_for x) x.stream) xs)
    → map strict_for xs ≡ map (λ x. x.stream) xs
unfolding every
same-streams [] t = refl
same-streams (x ∷ xs) t =
    let test = eq_text (strict_for x) x.stream in
    let others = every (λ y. eq_text (strict_for y) y.stream) xs in
    cc (
      eq_text-eq (strict_for x) x.stream (left test others t),
      same-streams xs
          (right test others t),
    )

scope : Hold K
unfolding definitions K
scope = record { answers = refl; strict_forms = same-streams K tt }

scope-replies : Replied K KReplies
unfolding definitions K KReplies
scope-replies = record { replies = refl }

mistakes-hold : Hold mistakes
unfolding definitions mistakes
mistakes-hold = record { answers = refl; strict_forms = same-streams mistakes tt }

kept-hold : Hold kept
unfolding definitions kept
kept-hold = record { answers = refl; strict_forms = same-streams kept tt }

places-lie : Lie laid_out
unfolding definitions layout_of store_with at in_uri named laid_out
places-lie = record { layouts = refl }

orders-hold : Hold orders
unfolding definitions orders
orders-hold = record { answers = refl; strict_forms = same-streams orders tt }

refusals-hold : Hold refusals
unfolding definitions then_characters refusals
refusals-hold = record { answers = refl; strict_forms = same-streams refusals tt }

bounds-hold : Bounded bounds
unfolding definitions sizes_as only bound rewritten sum_under bounds
bounds-hold = record { reader = refl; writer = refl; above = refl }

pinned : Pinned
unfolding definitions sizes_as setting meaningless reader_room writer_room reader_rooms writer_rooms
pinned =
    record {
      refusals = numbered;
      sizes_are = refl;
      both_sides = bounds-hold;
      reader_settings = refl;
      writer_settings = refl;
      reader_bounds = refl;
      writer_bounds = refl;
      reader_lent = refl;
      writer_lent = refl;
      outside = refl;
      inside = refl;
    }

in_order : RefusedUnder bounds_in_order
unfolding definitions sizes_as only bound bounds_in_order
in_order = refl

writes-hold : Written writes
unfolding definitions at in_uri named written_for listed listed_in writes
writes-hold = record { answers = refl }

-- By the answers.
answers-replied : map write_reply (map (λ x. x.answer) writes) ≡ write_replies
unfolding definitions at in_uri named wrote listed listed_in writes write_replies
answers-replied = refl

writes-replied : WriteReplied writes write_replies
writes-replied =
    record {
      replies = sym (map-map write_reply written_for writes) ∙ ap (map write_reply) writes-hold.answers
          ∙ answers-replied;
    }

writes-in-order : WrittenUnder writes_in_order
unfolding definitions sizes_as only at in_uri named listed listed_in second_value writes_in_order
writes-in-order = record { answers = refl }

equal-read : Hold equal_read
unfolding definitions then_octets equal_read
equal-read = record { answers = refl; strict_forms = same-streams equal_read tt }

equal-written : Written equal_written
unfolding definitions at in_uri named written_for listed listed_in then_events equal_written
equal-written = record { answers = refl }

initial-names : InitialNames
unfolding definitions
initial-names s = tt

names-read : Hold names_read
unfolding definitions names_read
names-read = record { answers = refl; strict_forms = same-streams names_read tt }

texts-read : Hold texts_read
unfolding definitions after_comment after_instruction before texts_read
texts-read = record { answers = refl; strict_forms = same-streams texts_read tt }

bounded-read : Hold bounded_read
unfolding definitions longest_of room_for in_a letters within in_b bounded_read
bounded-read = record { answers = refl; strict_forms = same-streams bounded_read tt }

bounded-sizes : BoundedSizes
unfolding definitions sizes_as only longest_of room_for rewritten replied_under wrote_under wrote
bounded-sizes = record { replacing = refl; rewriting = refl; joining = refl; stored = refl }

names-written : Written names_written
unfolding definitions at in_uri named written_for listed listed_in element keeping names_written
names-written = record { answers = refl }

names-in-order : WrittenUnder names_in_order
unfolding definitions sizes_as only at listed_in keeping names_in_order
names-in-order = record { answers = refl }

fragments-read : Hold fragments_read
unfolding definitions in_pieces fragments_read
fragments-read = record { answers = refl; strict_forms = same-streams fragments_read tt }

fragments-written : Written fragments_written
unfolding definitions at in_uri named written_for in_pieces listed_in listed pieced fragments_written
fragments-written = record { answers = refl }

pieces-told : Tell pieces
unfolding definitions pieces
pieces-told = record { replies = refl }

-- All of them.
pub worked-examples : WorkedExamples
worked-examples =
    record {
      scope = scope;
      scope-replies = scope-replies;
      fields = field-examples;
      mistakes-hold = mistakes-hold;
      kept-hold = kept-hold;
      places-lie = places-lie;
      orders-hold = orders-hold;
      refusals-hold = refusals-hold;
      pinned = pinned;
      in_order = in_order;
      writes-hold = writes-hold;
      writes-replied = writes-replied;
      writes-in-order = writes-in-order;
      equal-read = equal-read;
      equal-written = equal-written;
      names = name-examples;
      initial-names = initial-names;
      names-read = names-read;
      texts-read = texts-read;
      names-written = names-written;
      names-in-order = names-in-order;
      fragments-read = fragments-read;
      fragments-written = fragments-written;
      bounded-read = bounded-read;
      bounded-sizes = bounded-sizes;
      pieces-told = pieces-told;
    }

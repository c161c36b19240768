-- The claims of specs/Readings.antt: one line each, which points to its proof.
use mathlib.Core.Path.{refl}
use Rattle.spec_fields.specs.Refusal as fields
use Rattle.spec_exi.specs.Sizes.{sizes}
use Rattle.spec_readings.specs.Readings.{number_of}
use Rattle.spec_readings.proofs.Calendar as calendar
use Rattle.spec_readings.proofs.BothWays as both
use Rattle.spec_readings.proofs.Good.{list-alike}
use Rattle.spec_readings.proofs.Store as store
use Rattle.spec_readings.proofs.Limit as limit
use Rattle.spec_readings.proofs.HowMany as many
use Rattle.spec_readings.proofs.Answers as answers
use Rattle.spec_readings.proofs.Laid as laid
use Rattle.spec_readings.proofs.AsRead.{as_read}
use Rattle.spec_readings.proofs.Streams as streams
use Rattle.spec_readings.proofs.NoLimit.{no-limit}
use Rattle.spec_readings.proofs.OnlyLong.{only-long}
use Rattle.spec_readings.proofs.Examples as examples
use Rattle.spec_readings.proofs.StreamExamples.{read-replies, write-replies}
use Rattle.refusal.specs.Names.{of_readings, names, name_of, refusals, name_among, padded, name_at}
use Rattle.theorems.specs.Readings.{ReadingsTheorems}

pub readings-theorems : ReadingsTheorems
unfolding name_at name_among names name_of refusals of_readings padded number_of fields.number_of
readings-theorems =
    record {
      numbers-are = record {
        later-larger = calendar.later-larger;
        one-stamp = calendar.one-stamp;
        up-to-last = calendar.up-to-last;
        every-number = calendar.every-number;
        stamp-again = calendar.at-number;
      };
      texts = record { stamp = both.stamp-said; movement = both.movement-said };
      both_ways = record {
        lists = both.lists-accepted;
        readings = both.readings-accepted;
        readings-back = both.readings-read;
        list_back = both.list-again;
        alike = list-alike sizes;
      };
      counted = record {
        store = store.counted;
        only_store = limit.only_store;
        roomy = many.roomy;
        at_most = many.at_most;
        zeros = many.zeros;
        one-zero-more = many.one-zero-more;
        tens = many.tens;
        one-ten-more = many.one-ten-more;
        distinct = many.distinct;
        one-distinct-more = many.one-distinct-more;
      };
      in_memory = λ r p. record {
        readings-room = answers.readings-room r;
        list-room = answers.list-room p;
        readings-zero = answers.readings-zero r;
        list-zero = answers.list-zero p;
        laid = laid.laid-means;
        readings-back = laid.laid-back p r;
        list_back = laid.list-again p r;
      };
      from-streams = λ r q o stream. record {
        no_room = streams.from-no-room r q o stream;
        refused_as = streams.from-refused r q o stream;
        of-list = streams.from_list r q o stream;
        no-limit = λ scope x i e. no-limit q o stream x e scope r i;
        zero = streams.from_zero r q o stream;
      };
      to-streams = λ p w o rs. record {
        no_room = streams.to-no-room p w o rs;
        refused_as = streams.to-refused p w o rs;
        of-writer = streams.to-writer p w o rs;
        only-long = only-long p w o rs;
        zero = streams.to-zero p w o rs;
      };
      streams-both-ways = λ p w r q o. record {
        readings-back = streams.readings-back p w r q o;
        stream-back = streams.stream-back p w r q o;
        laid-as-read = as_read q o;
        laid-back = streams.list_back p w r q o;
      };
      worked = record {
        stamp-texts = examples.stamp-texts;
        movement-texts = examples.movement-texts;
        stamps-back = examples.stamps-back;
        lists = examples.lists;
        readings = examples.readings;
        small-store = examples.small-store;
        small-lists = examples.small-lists;
        places = examples.one-laid;
        room = examples.rooms-hold;
        list-replies = examples.list-replies;
        replies-are = examples.replies-hold;
        stored-answers = examples.stored-answers;
        read-replies = read-replies;
        write-replies = write-replies;
      };
      names = refl;
    }

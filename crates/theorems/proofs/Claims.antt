-- The claims of specs/Claims.antt: one line each, which points to its proof.
use native.Mathlib.Omega.{arith}
use Rattle.spec_exi.specs.Sizes.{max_stream, max_events, max_open, max_uris, max_names, max_values}
use Rattle.spec_exi.specs.Sizes.{max_grammars, max_learned, max_string, max_store, sizes, base_sizes}
use Rattle.spec_exi.specs.Sizes.{NoLarger}
use Rattle.spec_exi.specs.Settings.{settings_of}
use Rattle.spec_exi.specs.Reader.{read}
use Rattle.spec_exi.specs.Writer.{write}
use Rattle.spec_exi.proofs.ReaderReplies as reader
use Rattle.spec_exi.proofs.WriterReplies as writer
use Rattle.spec_exi.proofs.Packets as packets
use Rattle.spec_exi.proofs.Demands as demands
use Rattle.spec_exi.proofs.Sizes.{accepted-still}
use Rattle.spec_exi.proofs.Attributes.{formed-exactly}
use Rattle.spec_exi.proofs.Values.{value-rules}
use Rattle.spec_exi.proofs.Examples.{worked-examples}
use Rattle.spec_limits.proofs.AtSizes.{at-sizes}
use Rattle.theorems.specs.Claims.{Theorems}

scope-smaller : NoLarger base_sizes sizes
unfolding base_sizes max_stream max_events max_open max_uris max_names max_values max_grammars max_learned
    max_string max_store
scope-smaller =
    record {
      stream = omega arith;
      events = omega arith;
      opened = omega arith;
      uris = omega arith;
      names = omega arith;
      values = omega arith;
      grammars = omega arith;
      learned = omega arith;
      string = omega arith;
      store = omega arith;
    }

pub theorems : Theorems
theorems =
    record {
      demand-1-reader = λ r o stream. record {
        numbers = reader.numbers (reader.outcome r o stream);
        no_room = reader.no_room_lem (reader.outcome r o stream);
        no-meaning = reader.no-meaning (reader.outcome r o stream);
        too_long = reader.too_long_lem (reader.outcome r o stream);
        index = packets.index-counts r o stream;
        no_index = reader.no_index (reader.outcome r o stream);
        counts = reader.counts (read r o stream);
        no-counts = reader.no-counts (read r o stream);
        bounded = reader.bounded (reader.outcome r o stream);
      };
      demand-1-writer = λ r o xs store. record {
        numbers = writer.numbers (writer.outcome r o xs store);
        no_room = writer.no_room_lem (writer.outcome r o xs store);
        no-meaning = writer.no-meaning (writer.outcome r o xs store);
        too_long = writer.too_long_lem r o xs store;
        index = writer.index (writer.outcome r o xs store);
        no_index = writer.no_index (writer.outcome r o xs store);
        counts = writer.counts (write r o xs store);
        no-counts = writer.no-counts (write r o xs store);
        bounded = writer.bounded (writer.outcome r o xs store);
      };
      demand-2 = λ r p o. record {
        written-when-zero = demands.written-when-zero r o;
        written = demands.written r o;
        read_back = demands.read_back r p o;
        written_back = demands.written_back r p o;
      };
      demand-3 = λ r o. record {
        accepted-when-zero = demands.accepted-when-zero r o;
        exact = demands.exact r o;
        one_list = demands.one_list (settings_of o);
        one-stream = demands.one-stream r o;
        no-prefix = demands.no-prefix r o;
      };
      lookup = λ r o stream x e. record {
        texts = demands.texts r o stream x e;
        store = demands.store r o stream x e;
      };
      larger-sizes = λ y z h. record { accepted-still = accepted-still y z h };
      scope-sizes = record { accepted-still = accepted-still base_sizes sizes scope-smaller };
      equal-attributes = λ s l. record { well-formed = formed-exactly s l };
      value-rules = value-rules;
      worked-examples = worked-examples;
      at-sizes = at-sizes;
    }

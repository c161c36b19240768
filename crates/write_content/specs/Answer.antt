-- What judging the content of an event answers.
use Rattle.std.specs.Prelude.{ℕ}
use Rattle.mem_state.specs.declared.Strings.{Strings}
use Rattle.write_values.specs.Values.{partition_in, id_in}
use Rattle.write_content.specs.declared.Content.{Content}

-- The number of a refusal or 0; the code points in the store after the content; what is to join; and
-- of a value the partition that has it, and its compact identifier there.
pub record ContentAnswer : Type 0 where
  pub number : ℕ
  pub stored : ℕ
  pub strings : Strings
  pub partition : ℕ
  pub id : ℕ

abbrev pub told_content : Content → ContentAnswer
told_content x =
    record {
      number = 0;
      stored = x.stored;
      strings = x.strings;
      partition = partition_in x.form;
      id = id_in x.form;
    }

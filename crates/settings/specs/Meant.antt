-- What the values that src/lib.rt declares mean.
use Rattle.std.specs.Prelude.{eqb}
use Rattle.read_field.specs.View.{alignment_of}
use Rattle.spec_exi.specs.Settings as format
use Rattle.settings.specs.declared.SettingNumbers.{SettingNumbers}
use Rattle.settings.specs.declared.Settings.{Settings}

-- The definitions' numbers.
unfoldable pub numbers_of : SettingNumbers → format.SettingNumbers
numbers_of s =
    record {
      alignment = s.alignment;
      cookie = s.cookie;
      comments = s.comments;
      instructions = s.instructions;
      fragment = s.fragment;
      value_length = s.value_length;
      value_capacity = s.value_capacity;
      loose = s.loose;
      prefixes = s.prefixes;
      grammar_cap = s.grammar_cap;
    }

-- Numbers that have a meaning mean these settings (crates/spec_exi/specs/Settings.antt).
unfoldable pub settings_meant : SettingNumbers → Settings
settings_meant s =
    record {
      aligned = eqb s.alignment 1;
      cookie = eqb s.cookie 1;
      comments = eqb s.comments 1;
      instructions = eqb s.instructions 1;
      fragment = eqb s.fragment 1;
      longest = s.value_length;
      capacity = s.value_capacity;
    }

-- The definitions' settings.
unfoldable pub settings_from : Settings → format.Settings
settings_from o =
    record {
      alignment = alignment_of o.aligned;
      cookie = o.cookie;
      comments = o.comments;
      instructions = o.instructions;
      fragment = o.fragment;
      longest = format.bound_of o.longest;
      capacity = format.bound_of o.capacity;
    }

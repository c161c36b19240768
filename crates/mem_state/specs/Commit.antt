-- What an accepted event adds to memory and to the numbers, over cells and for every memory; what
-- it means is a law (proofs/Commit.antt).
use Rattle.std.specs.Prelude.{ℕ, ◌+◌, ◌-◌, ◌≤◌, ◌<◌, ◌≡◌, Bool, true, cond, List, length, eqb}
use Rattle.spec_exi.specs.Event.{SE, AT, EE}
use Rattle.spec_exi.specs.Grammar.{kind_number}
use Rattle.mem_layout.specs.Layout.{uri_rows, name_rows, learned_rows, sites, work_cells}
use Rattle.mem_index.specs.Index.{numbers}
use Rattle.mem_names.specs.Uris.{with_uri}
use Rattle.mem_names.specs.Names.{with_name}
use Rattle.mem_marks.specs.Marks.{with_mark}
use Rattle.mem_values.specs.Values.{with_value}
use Rattle.mem_learned.specs.Learned.{with_learned}
use Rattle.mem_learned.specs.Grammars.{with_grammar_of}
use Rattle.mem_rows.specs.Rows.{mode_after}
use Rattle.event_code.specs.Numbers.{kinds}
use Rattle.mem_chain.specs.Chain.{max_count}
use Rattle.mem_state.specs.declared.Core.{Core}
use Rattle.mem_state.specs.declared.Strings.{Strings}
use Rattle.mem_state.specs.declared.Growth.{Growth}
use Rattle.mem_state.specs.Joining.{Joining, uri_joining, name_joining, value_joining}

-- ---- rows

unfoldable pub joined_uri : ℕ → Joining → List ℕ → List ℕ
joined_uri n x work = cond x.joins (with_uri work n x.place x.size n) work

unfoldable pub joined_name : ℕ → ℕ → Joining → List ℕ → List ℕ
joined_name n uri x work =
    cond x.joins (with_name work n uri x.place x.size x.hash) work

unfoldable pub joined_value : ℕ → ℕ → Joining → List ℕ → List ℕ
joined_value n owner x work =
    cond x.joins (with_value work n owner x.place x.size x.hash) work

unfoldable pub joined_strings : Core → Strings → List ℕ → List ℕ
joined_strings c s work =
    joined_value c.values s.owner (value_joining s)
    (joined_name c.names s.uri_row (name_joining s) (joined_uri c.uris (uri_joining s) work))

unfoldable pub entered : Bool → ℕ → List ℕ → List ℕ
entered enters name work = cond enters (with_grammar_of work name) work

unfoldable pub learnt : ℕ → Growth → List ℕ → List ℕ
learnt n g work =
    cond g.teaches (with_learned work n g.site g.kind g.name g.uri g.name) work

-- An attribute's name gets the start tag's mark.
unfoldable pub marked : ℕ → ℕ → ℕ → List ℕ → List ℕ
marked tag kind name work = cond (eqb kind (kind_number AT)) (with_mark work tag name) work

unfoldable pub grown : Core → Growth → List ℕ → List ℕ
grown c g work =
    marked c.tag g.kind g.name (learnt c.learned g (entered g.enters g.name work))

-- ---- numbers

unfoldable pub counted : Core → Strings → Growth → Core
counted c s g =
    record {
      at = c.at;
      stored = c.stored;
      uris = c.uris + cond s.new_uri 1 0;
      names = c.names + cond s.new_name 1 0;
      values = c.values + cond s.new_value 1 0;
      learned = c.learned + cond g.teaches 1 0;
      grammars = c.grammars + cond g.enters 1 0;
      mode = c.mode;
      top = c.top;
      depth = c.depth;
      tag = c.tag;
      longest = c.longest;
      capacity = c.capacity;
    }

unfoldable pub top_after : ℕ → ℕ → ℕ → ℕ
top_after kind name top = cond (eqb kind (kind_number SE)) name top

unfoldable pub depth_after : ℕ → ℕ → ℕ
depth_after kind depth =
    cond (eqb kind (kind_number SE)) (depth + 1) (cond (eqb kind (kind_number EE)) (depth - 1) depth)

-- The mark after an event of this kind, before which so many have come.
unfoldable pub tag_number : ℕ → ℕ → ℕ → ℕ
tag_number kind n tag = cond (eqb kind (kind_number AT)) tag (n + 2)

unfoldable pub turned : Bool → Core → ℕ → ℕ → ℕ → Core
turned fragment c kind name n =
    record {
      at = c.at;
      stored = c.stored;
      uris = c.uris;
      names = c.names;
      values = c.values;
      learned = c.learned;
      grammars = c.grammars;
      mode = mode_after fragment kind c.mode c.depth;
      top = top_after kind name c.top;
      depth = depth_after kind c.depth;
      tag = tag_number kind n c.tag;
      longest = c.longest;
      capacity = c.capacity;
    }

-- ---- what the functions ask: bounds alone

pub record UriPre (work : List ℕ) (n : ℕ) (x : Joining) : Type 0 where
  pub room : work_cells ≤ length work
  pub few : x.joins ≡ true → n < uri_rows

pub record NamePre (work : List ℕ) (n uri : ℕ) (x : Joining) : Type 0 where
  pub room : work_cells ≤ length work
  pub few : x.joins ≡ true → n < name_rows
  pub low : uri < uri_rows

pub record ValuePre (work : List ℕ) (n owner : ℕ) (x : Joining) : Type 0 where
  pub room : work_cells ≤ length work
  pub few : x.joins ≡ true → n < numbers
  pub low : owner < name_rows

pub record StringsPre (work : List ℕ) (c : Core) (s : Strings) : Type 0 where
  pub room : work_cells ≤ length work
  pub uris : s.new_uri ≡ true → c.uris < uri_rows
  pub names : s.new_name ≡ true → c.names < name_rows
  pub values : s.new_value ≡ true → c.values < numbers
  pub uri : s.uri_row < uri_rows
  pub owner : s.owner < name_rows

pub record EnterPre (work : List ℕ) (name : ℕ) : Type 0 where
  pub room : work_cells ≤ length work
  pub low : name < name_rows

pub record LearnPre (work : List ℕ) (n : ℕ) (g : Growth) : Type 0 where
  pub room : work_cells ≤ length work
  pub few : g.teaches ≡ true → n < learned_rows
  pub site : g.site < sites
  pub kind : g.kind < kinds
  pub name : g.name < name_rows

pub record GrowPre (work : List ℕ) (c : Core) (g : Growth) : Type 0 where
  pub room : work_cells ≤ length work
  pub few : g.teaches ≡ true → c.learned < learned_rows
  pub site : g.site < sites
  pub kind : g.kind < kinds
  pub name : g.name < name_rows

pub record One (b : Bool) (r : ℕ) : Type 0 where
  pub is : r ≡ cond b 1 0
  pub most : r ≤ 1

pub record CountPre (c : Core) : Type 0 where
  pub uris : c.uris ≤ max_count
  pub names : c.names ≤ max_count
  pub values : c.values ≤ max_count
  pub learned : c.learned ≤ max_count
  pub grammars : c.grammars ≤ max_count

pub record TurnPre (c : Core) (kind n : ℕ) : Type 0 where
  pub few : c.depth ≤ max_count
  pub early : n ≤ max_count
  pub some : kind ≡ kind_number EE → 0 < c.depth

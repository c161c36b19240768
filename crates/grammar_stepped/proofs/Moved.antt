-- An event that teaches no production, and of whose strings the value alone may join.
use Prim.Native.Nat.{ℕ, ◌+◌}
use native.Mathlib.Omega.{arith}
use mathlib.Core.Path.{◌≡◌, sym, ap, ◌∙◌}
use mathlib.Core.Bool.{Bool, true, false, cond, ◌&&◌, not}
use mathlib.Core.List.{List}
use lib.Dec.{eqb}
use Rattle.spec_exi.specs.Event.{AT}
use Rattle.spec_exi.specs.Grammar.{kind_number}
use Rattle.mem_marks.specs.Marks.{marked_in}
use Rattle.mem_rows.specs.Rows.{mode_after}
use Rattle.mem_state.specs.declared.Core.{Core}
use Rattle.mem_state.specs.declared.Strings.{Strings}
use Rattle.mem_state.specs.Joining.{Joining, no_joining, as_strings}
use Rattle.mem_state.specs.Commit.{counted, turned, top_after, depth_after, tag_number}
use Rattle.grammar_update.specs.Growth.{growth_of, allowed_in}
use Rattle.grammar_update.specs.After.{core_after}
use Rattle.grammar_stepped.specs.Stepped.{moved_on}

-- ---- the numbers after it

plus_none : (n : ℕ) → n ≡ n + 0
plus_none n = omega arith

-- Its strings, with the rows of URI, name and owner.
abbrev pub known_strings : Joining → ℕ → ℕ → ℕ → Strings
known_strings x uri name owner = as_strings no_joining no_joining x uri name owner

pub moved-core : (f : Bool) (c : Core) (at stored : ℕ) (x : Joining) (uri name owner : ℕ) (enters : Bool)
    (site kind named of n : ℕ)
    → moved_on c at stored x.joins enters (mode_after f kind c.mode c.depth)
    (top_after kind named c.top) (depth_after kind c.depth) (tag_number kind n c.tag)
    ≡ core_after f c at stored
    (known_strings x uri name owner)
    (record { enters = enters; teaches = false; site = site; kind = kind; name = named; uri = of }) n
unfolding turned counted
moved-core f c at stored x uri name owner enters site kind named of n =
    λ t. record {
      at = at;
      stored = stored;
      uris = plus_none c.uris t;
      names = plus_none c.names t;
      values = c.values + cond x.joins 1 0;
      learned = plus_none c.learned t;
      grammars = c.grammars + cond enters 1 0;
      mode = mode_after f kind c.mode c.depth;
      top = top_after kind named c.top;
      depth = depth_after kind c.depth;
      tag = tag_number kind n c.tag;
      longest = c.longest;
      capacity = c.capacity;
    }

-- ---- the start tag

-- An event that is no attribute is allowed.
pub other-allowed : (work : List ℕ) (tag name : ℕ) {kind k : ℕ} → kind ≡ k
    → eqb k (kind_number AT) ≡ false → allowed_in work tag kind name ≡ true
unfolding allowed_in
other-allowed work tag name e f =
    ap (λ m. not (eqb m (kind_number AT) && marked_in work tag name)) e
    ∙ ap (λ b. not (b && marked_in work tag name)) f

-- Of an attribute the mark decides.
pub attribute-allowed : (work : List ℕ) (tag name : ℕ) {kind : ℕ} {m : Bool}
    → kind ≡ kind_number AT → m ≡ marked_in work tag name → allowed_in work tag kind name ≡ not m
unfolding allowed_in kind_number
attribute-allowed work tag name e f =
    ap (λ k. not (eqb k 3 && marked_in work tag name)) e ∙ ap not (sym f)

-- ---- the grammars

-- What it leaves there, by its kind.
pub growth-by : (work : List ℕ) (c : Core) (x : Strings) {k m : ℕ} {b d : Bool} → k ≡ m → b ≡ d
    → growth_of work c k b x ≡ growth_of work c m d x
growth-by work c x {m = m} {b} e f =
    ap (λ n. growth_of work c n b x) e ∙ ap (λ t. growth_of work c m t x) f

-- The turns of `lay_text`: the first i code points are written.
use Prim.Native.Nat.{ℕ, ◌+◌, ◌≤◌, ◌<◌}
use native.Mathlib.Numerals.{add-one}
use native.Mathlib.Omega.{arith}
use mathlib.Core.Path.{◌≡◌, refl, ◌∙◌}
use mathlib.Core.List.{List, append-nil}
use lib.ListN.{length, get_or, take, set, replicate, length-set}
use lib.Seq.{take_all, paste, paste-zero, paste-suc}
use Rattle.text.specs.Text.{text}
use Rattle.spec_exi.specs.Tables.{xml_uri, xsi_uri}
use Rattle.mem_initial.specs.Initial.{initial_uris, initial_names, together, uris_text, initial_size}
use Rattle.mem_initial.specs.Initial.{names_text, initial_text, with_text}

pub text-length : length initial_text ≡ initial_size
unfolding initial_text uris_text names_text together initial_uris initial_names xml_uri xsi_uri text
text-length = refl

pub record Copied (old : List ℕ) (origin : ℕ) (cells : List ℕ) (i : ℕ) : Type 0 where
  pub few : i ≤ initial_size
  pub fits : origin + initial_size ≤ length old
  pub same : length cells ≡ length old
  pub written : cells ≡ paste old origin initial_text i

module _ (old : List ℕ) (origin : ℕ) where
  pub none-copied : origin + initial_size ≤ length old → Copied old origin old 0
  none-copied h =
      record {
        few = omega arith;
        fits = h;
        same = refl;
        written = paste-zero old origin initial_text;
      }

  module _ {cells : List ℕ} {i : ℕ} (c : Copied old origin cells i) where
    pub one-copied : {x : ℕ} → i < initial_size → x ≡ get_or initial_text i 0
        → Copied old origin (set cells (origin + i) x) (i + 1)
    one-copied h e =
        let l : length initial_text ≡ initial_size = text-length in
        record {
          few = omega arith;
          fits = c.fits;
          same = simp length-set c.same;
          written = rw (e, c.written, add-one)
              (paste-suc old origin initial_text i 0 (omega arith) (omega arith));
        }

    pub all-copied : initial_size ≤ i → cells ≡ with_text old origin
    unfolding with_text
    all-copied h =
        let l : length initial_text ≡ initial_size = text-length in
        let e : i ≡ initial_size = omega arith in
        let t : take initial_size initial_text ≡ initial_text = take_all initial_size initial_text (omega arith) in
        c.written ∙ rw (e, t)

-- A store of that text alone.
pub text-alone : with_text (replicate initial_size 0) 0 ≡ initial_text
unfolding with_text
text-alone = append-nil initial_text

-- The rows that the calls add are those of the initial entries, by computation.
use Prim.Native.Nat.{ℕ, ◌+◌, ◌-◌, ◌≤◌}
use native.Mathlib.Omega.{arith}
use mathlib.Core.Path.{◌≡◌, sym, ◌∙◌, ap}
use mathlib.Core.List.{List, ◌++◌, append_assoc}
use lib.ListN.{length, take, drop, replicate}
use borrow.Rule.Slice.PartMut.{mid_of, put_mid, mid_len, Post-is}
use Rattle.text.specs.Text.{text}
use Rattle.spec_exi.specs.Tables.{xml_uri, xsi_uri}
use Rattle.mem_layout.specs.Layout.{zero_from, zero_to, work_cells}
use Rattle.mem_entries.specs.Texts.{mixed, hash_from, hash_of}
use Rattle.mem_names.specs.Uris.{with_uri}
use Rattle.mem_names.specs.Names.{with_name}
use Rattle.mem_initial.specs.Initial.{zeroed, initial_uris, initial_names, together, uris_text}
use Rattle.mem_initial.specs.Initial.{with_uris, with_names, uris_laid, names_laid, with_rows}

-- The part with the counts, cleared, back in its place.
pub counts-cleared : (work : List ℕ) {part : List ℕ} → work_cells ≤ length work
    → part ≡ replicate (length (mid_of zero_from (zero_to - zero_from) work)) 0
    → put_mid zero_from (zero_to - zero_from) work part ≡ zeroed work
unfolding zeroed
counts-cleared work {part} room e =
    ap (λ (l : List ℕ). take zero_from work ++ (part ++ l))
    (Post-is zero_from zero_to work (omega arith))
    ∙ ap (λ (l : List ℕ). take zero_from work ++ (l ++ drop zero_to work))
    (e ∙ ap (λ (n : ℕ). replicate n 0) (mid_len zero_from zero_to work (omega arith)))
    ∙ sym (append_assoc (take zero_from work) (replicate (zero_to - zero_from) 0) (drop zero_to work))

module _ (work : List ℕ) (origin : ℕ) where
  pub uris-laid : {a b d : List ℕ} → a ≡ with_uri work 0 origin 0 0
      → b ≡ with_uri a 1 origin 36 1 → d ≡ with_uri b 2 (origin + 36) 41 2
      → d ≡ uris_laid work origin
  unfolding uris_laid with_uris initial_uris xml_uri xsi_uri text
  uris-laid e f g = let z : origin + 0 ≡ origin = omega arith in rw (g, f, e, z)

  pub names-laid : {a b d e f g : List ℕ} → a ≡ with_name work 0 1 (origin + 77) 4 3997284845
      → b ≡ with_name a 1 1 (origin + 81) 2 1761650095
      → d ≡ with_name b 2 1 (origin + 83) 4 1581560574
      → e ≡ with_name d 3 1 (origin + 87) 5 1388299130
      → f ≡ with_name e 4 2 (origin + 92) 3 3188801237
      → g ≡ with_name f 5 2 (origin + 95) 4 3887450706
      → g ≡ names_laid work origin
  unfolding names_laid with_names initial_names uris_text together initial_uris xml_uri xsi_uri text hash_of
      hash_from mixed
  names-laid p q r s t u = rw (u, t, s, r, q, p)

  pub rows-laid : {a b : List ℕ} → a ≡ uris_laid work origin → b ≡ names_laid a origin
      → b ≡ with_rows work origin
  unfolding with_rows
  rows-laid e f = f ∙ ap (λ l. names_laid l origin) e

-- What the functions ask of their callees, and leave.
use Prim.Native.Nat.{ℕ}
use mathlib.Core.Path.{◌≡◌}
use mathlib.Core.List.{List}
use native.Mathlib.Omega.{arith}
use lib.ListN.{length, take}
use lib.Seq.{length-take-le}
use Rattle.spec_fields.specs.Refusal.{number_of}
use Rattle.spec_exi.specs.Settings.{Settings}
use Rattle.mem_state.specs.declared.Core.{Core}
use Rattle.receiver_record.specs.declared.Wait.{Wait}
use Rattle.receiver_strings.specs.View.{Looked}
use Rattle.receiver_strings.specs.Strings.{SpotPre}
use Rattle.receiver_look.specs.Look.{LookPre, LookPost}
use Rattle.receiver_wait.specs.Wait.{StillPre, CutPre, CutPost}

pub still-asks : {held : List ℕ} {n at : ℕ} → StillPre held n at → SpotPre (take n held) at
still-asks {held} {n} pre =
    let l : length (take n held) ≡ n = length-take-le n held pre.kept in
    record { size = omega (arith, pre.size); place = omega (arith, pre.place) }

module _ {held : List ℕ} {n : ℕ} {work : List ℕ} {c : Core} (pre : CutPre held n work c) where
  pub look-asks : LookPre (take n held) work c
  look-asks =
      let l : length (take n held) ≡ n = length-take-le n held pre.kept in
      record {
        spot = record { size = omega (arith, pre.size); place = omega (arith, pre.place) };
        rows = pre.rows;
        bounded = pre.bounded;
      }

  pub cut-nothing : (s : Settings) (number : ℕ) {r : Wait} → r ≡ record { at = 0; left = 0 }
      → CutPost s (take n held) work number c r
  cut-nothing s number e =
      rw e
      (record {
        inside = omega arith;
        few = omega arith;
        cut = λ l. absurd (omega arith);
      })

  pub cut-looked : {s : Settings} {number : ℕ} → number ≡ 5 → (c.at ≡ 0 → ⊥) → {l : Looked}
      → LookPost s (take n held) work c l
      → CutPost s (take n held) work number c (record { at = l.at; left = l.left })
  unfolding number_of
  cut-looked e some h =
      record {
        inside = h.bounds.inside;
        few = h.bounds.few;
        cut = λ l. record { ends = e; begun = omega (arith, some); cut = h.cut l };
      }

-- Octets that follow change nothing of what was read; and where header and events end.
use mathlib.Core.Path.{◌≡◌, sym, ap, ◌∙◌}
use mathlib.Core.List.{List, ◌++◌}
use Prim.Native.Nat.{ℕ, ◌+◌, ◌*◌, ◌≤◌, ◌<◌}
use native.Mathlib.Omega.{arith}
use lib.ListN.{length, drop, length-append, length-drop}
use lib.Seq.{drop-append-le}
use Rattle.spec_fields.specs.Bits.{Bits, unpack}
use Rattle.spec_fields.specs.Parser.{got}
use Rattle.spec_fields.proofs.Tests.{split}
use Rattle.spec_fields.proofs.Pack.{length-unpack, unpack-append}
use Rattle.spec_exi.specs.Settings.{Settings, header_of}
use Rattle.spec_exi.specs.Sizes.{sizes}
use Rattle.spec_exi.specs.Event.{Event}
use Rattle.spec_exi.specs.Tables.{Placed}
use Rattle.spec_exi.specs.Context.{Context}
use Rattle.spec_exi.specs.Reader.{read_header}
use Rattle.spec_exi.proofs.Steady.{steady-header}
use Rattle.spec_exi.proofs.Step.{step-reads}
use Rattle.spec_exi.proofs.Stream.{header-reads, header-octets}
use Rattle.grammar_open.specs.declared.State.{State}
use Rattle.reader.specs.read_run.Events.{Steps, none_read, one-read}
use Rattle.reader.proofs.read_run.Events.{steps-longer}
use Rattle.receiver_read.specs.On.{Headed, before-it, after-it, Underway}

-- ---- positions

header-some : (s : Settings) → 0 < length (header_of s)
unfolding header_of
header-some s = split s.cookie (λ e. rw e (omega arith)) (λ e. rw e (omega arith))

-- The header has octets.
pub header-ends : (s : Settings) (stream : List ℕ) (q : ℕ) → q ≤ 8 * length stream
    → read_header (header_of s) (unpack stream) ≡ got tt (drop q (unpack stream)) → 0 < q
header-ends s stream q l e =
    let rest : Bits = drop q (unpack stream) in
    let (w, h, j) = (header-reads (header_of s) (header-octets s)).sound (unpack stream) tt rest e in
    let a : length (unpack stream) ≡ length w + length rest = ap length j ∙ length-append w rest in
    omega (
      arith,
      a,
      ap length h,
      length-unpack stream,
      length-unpack (header_of s),
      length-drop q (unpack stream),
      header-some s,
    )

-- Events take bits, if any.
pub steps-shorter : {s : Settings} {c d : Context} {bs rest : Bits} {es : List (Event Placed)}
    → Steps s c bs es d rest → length rest ≤ length bs
steps-shorter none_read = omega arith
steps-shorter {s} {c} {bs = bs} (one-read {mid = mid} e h) =
    let (w, x, j) = (step-reads sizes s c).sound bs _ mid e in
    let a : length bs ≡ length w + length mid = ap length j ∙ length-append w mid in
    omega (arith, a, steps-shorter h)

-- ---- more octets

module _ (os more : List ℕ) where
  pub drop-longer : (n : ℕ) → n ≤ 8 * length os
      → drop n (unpack (os ++ more)) ≡ drop n (unpack os) ++ unpack more
  drop-longer n l =
      ap (drop n) (unpack-append os more)
      ∙ drop-append-le n (unpack os) (unpack more) (omega (arith, length-unpack os))

  headed-longer : {s : Settings} {es : List (Event Placed)} {c : Context} {mode at : ℕ}
      → Headed s os es c mode at → Headed s (os ++ more) es c mode at
  headed-longer (before-it a b c d) = before-it a b c d
  headed-longer {s} {at = at} (after-it p some le inside head steps) =
      let l : p ≤ 8 * length os = omega arith in
      after-it p some le (omega (arith, inside, length-append os more))
      (ap (read_header (header_of s)) (unpack-append os more)
      ∙ (steady-header (header_of s)).reads (unpack os) tt (drop p (unpack os)) (unpack more) head
      ∙ ap (got tt) (sym (drop-longer p l)))
      (rw (drop-longer p l, drop-longer at inside) (steps-longer (unpack more) steps))

  pub underway-longer : {s : Settings} {events text work : List ℕ} {st : State} {n : ℕ}
      → Underway s os events text work st n → Underway s (os ++ more) events text work st n
  underway-longer u =
      record {
        rows = u.rows;
        represents = u.represents;
        topped = u.topped;
        late = u.late;
        es = u.es;
        count = u.count;
        cells = u.cells;
        zeros = u.zeros;
        headed = headed-longer u.headed;
      }

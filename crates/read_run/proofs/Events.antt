-- Steps one behind the other, and what they leave of the definitions' answer.
use Prim.Native.Nat.{ℕ, suc, ◌+◌, ◌-◌}
use native.Mathlib.Omega.{arith}
use mathlib.Core.Path.{◌≡◌, refl, sym, ap, subst, ◌∙◌}
use mathlib.Core.Bool.{true, false, cond}
use mathlib.Core.List.{List, [], ◌∷◌, ◌++◌}
use lib.ListN.{length}
use Rattle.spec_fields.specs.Bits.{Bits}
use Rattle.spec_fields.specs.Refusal.{Refusal, code, Answer, refused, accepted}
use Rattle.spec_fields.specs.Parser.{Result, bad, got, fail, and_then, ◌>>=◌}
use Rattle.spec_fields.proofs.Tests.{split, is_t}
use Rattle.spec_exi.specs.Settings.{Settings}
use Rattle.spec_exi.specs.Sizes.{sizes}
use Rattle.spec_exi.specs.Event.{Event}
use Rattle.spec_exi.specs.Tables.{Placed}
use Rattle.spec_exi.specs.Grammar.{is_finished, levels_with, levels}
use Rattle.spec_exi.specs.Context.{Context, levels_in}
use Rattle.spec_exi.specs.Reader.{Reading, read_code, step, following, ending, onward, read_events}
use Rattle.spec_exi.specs.Packets.{nothing_yet, with_first, firstThen, first_events}
use Rattle.spec_exi.proofs.Writes.{is-finished}
use Rattle.spec_exi.proofs.Steady.{steady-step}
use Rattle.read_run.specs.Events.{Steps, none_read, one-read}

-- ---- steps

pub steps_then : {s : Settings} {c d f : Context} {bs mid rest : Bits}
    {es fs : List (Event Placed)} → Steps s c bs es d mid → Steps s d mid fs f rest
    → Steps s c bs (es ++ fs) f rest
steps_then none_read more = more
steps_then (one-read e h) more = one-read e (steps_then h more)

pub one_more : {s : Settings} {c d : Context} {bs mid rest : Bits} {es : List (Event Placed)}
    (v : Event Placed × Context) → Steps s c bs es d mid → step sizes s d mid ≡ got v rest
    → Steps s c bs (es ++ v.0 ∷ []) v.1 rest
one_more v h e = steps_then h (one-read e none_read)

-- More bits behind them change nothing.
pub steps-longer : {s : Settings} {c d : Context} {bs rest : Bits} {es : List (Event Placed)}
    (more : Bits) → Steps s c bs es d rest → Steps s c (bs ++ more) es d (rest ++ more)
steps-longer more none_read = none_read
steps-longer {s} {c} {bs = bs} more (one-read {mid = mid} e h) =
    one-read ((steady-step sizes s c).reads bs _ mid more e) (steps-longer more h)

-- ---- after the end document no event is read

no_code : (s : Settings) (c : Context) (bs : Bits) → is_finished c.state ≡ true
    → read_code s.alignment (levels_in s c) bs ≡ bad code
unfolding levels_in levels levels_with read_code fail
no_code s c bs f =
    subst (λ st. read_code s.alignment (levels s c.learned st) bs ≡ bad code)
    (sym (is-finished c.state (is_t _ f))) refl

pub no_step : (s : Settings) (c : Context) (bs : Bits) → is_finished c.state ≡ true
    → step sizes s c bs ≡ bad code
unfolding step ◌>>=◌ and_then
no_step s c bs f = rw (no_code s c bs f)

got-bad : {A B : Type 0} {r : Result A} {a : A} {bs : Bits} {k : Refusal}
    → r ≡ got a bs → r ≡ bad k → B
got-bad {A} e f =
    let z : ◌≡◌ {A = ℕ} 0 1 =
    ap (λ (x : Result A). elim x [ bad _ ↦ 0 | got _ _ ↦ 1 ]) (sym f ∙ e) in
    absurd (omega arith)

pub step-unfinished : (s : Settings) (c : Context) (bs : Bits) {v : Event Placed × Context}
    {rest : Bits} → step sizes s c bs ≡ got v rest → is_finished c.state ≡ false
step-unfinished s c bs e =
    split (is_finished c.state) (λ f. got-bad e (no_step s c bs f)) (λ f. f)

-- ---- the answer

-- These events stand before what this answer is about.
unfoldable pub shifted : List (Event Placed) → Answer Reading → Answer Reading
shifted es (refused k i) = refused k (length es + i)
shifted es (accepted r) = accepted (record { events = es ++ r.events; store = r.store })

shifted_none : (x : Answer Reading) → shifted [] x ≡ x
unfolding shifted
shifted_none (refused k i) = ap (refused k) (omega arith)
shifted_none (accepted r) = refl

shifted-first : (e : Event Placed) (es : List (Event Placed)) (x : Answer Reading)
    → following e (shifted es x) ≡ shifted (e ∷ es) x
unfolding shifted following
shifted-first e es (refused k i) = ap (refused k) (omega arith)
shifted-first e es (accepted r) = refl

-- In a context: the end, or at most n more events.
abbrev pub on_from : ℕ → Settings → Context → Bits → Answer Reading
on_from n s c bs = cond (is_finished c.state) (ending s c bs) (read_events n sizes s c bs)

module _ (s : Settings) (c : Context) (bs : Bits) {e : Event Placed} {d : Context} {mid : Bits}
    (f : step sizes s c bs ≡ got (e, d) mid) (n : ℕ) where
  one_answer : read_events (suc n) sizes s c bs ≡ following e (on_from n s d mid)
  unfolding read_events onward
  one_answer = rw f

  one-first : first_events (suc n) s c bs ≡ with_first e (first_events n s d mid)
  unfolding first_events firstThen
  one-first = rw f

pub steps-answer : {s : Settings} {c d : Context} {bs rest : Bits} {es : List (Event Placed)}
    (m n : ℕ) → m ≡ length es + n → Steps s c bs es d rest
    → on_from m s c bs ≡ shifted es (on_from n s d rest)
steps-answer {s} {c} {bs = bs} m n l none_read =
    let e : m ≡ n = omega arith in rw e (sym (shifted_none (on_from n s c bs)))
steps-answer {s} {c} {d} {bs} {rest} m n l (one-read {e = e} {es = es} f h) =
    let k : m ≡ suc (length es + n) = omega arith in
    rw (step-unfinished s c bs f, k)
    (one_answer s c bs f (length es + n)
    ∙ ap (following e) (steps-answer (length es + n) n refl h)
    ∙ shifted-first e es (on_from n s d rest))

-- The events that are complete.
pub steps_first : {s : Settings} {c d : Context} {bs rest : Bits} {es : List (Event Placed)}
    (m n : ℕ) → m ≡ length es + n → Steps s c bs es d rest
    → first_events n s d rest ≡ nothing_yet d
    → first_events m s c bs ≡ record { events = es; store = d.tables.store }
unfolding nothing_yet with_first
steps_first m n l none_read z = let e : m ≡ n = omega arith in rw e z
steps_first {s} {c} {d} {bs} m n l (one-read {e = e} {es = es} f h) z =
    let k : m ≡ suc (length es + n) = omega arith in
    rw k
    (one-first s c bs f (length es + n)
    ∙ ap (with_first e) (steps_first (length es + n) n refl h z))

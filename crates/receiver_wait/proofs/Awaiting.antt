-- A literal that is cut, as more octets come.
use Prim.Native.Nat.{ℕ, suc, ◌*◌, ◌-◌, ◌≤◌}
use mathlib.Core.Path.{◌≡◌, ◌∙◌, ap}
use mathlib.Core.List.{List, ◌++◌}
use native.Mathlib.Omega.{arith}
use lib.ListN.{length, length-append}
use Rattle.spec_fields.specs.Bits.{Bits, unpack}
use Rattle.spec_fields.specs.Parser.{Parser, and_then, ◌>>=◌, times}
use Rattle.spec_exi.specs.Settings.{Settings}
use Rattle.spec_exi.specs.Sizes.{sizes}
use Rattle.spec_exi.specs.Reader.{read_character, step}
use Rattle.grammar_open.specs.declared.State.{State}
use Rattle.grammar_open.specs.Opened.{opened_in}
use Rattle.read_contract.specs.Outcome.{Declined}
use Rattle.read_literal.specs.Awaits.{Awaits}
use Rattle.read_literal.specs.Literal.{Cut}
use Rattle.read_literal.proofs.Awaits.{then-then, awaits-more, awaits-refused}
use Rattle.receiver_record.specs.declared.Wait.{Wait}
use Rattle.receiver_read.specs.On.{InContext, Ends, Awaiting}
use Rattle.receiver_read.proofs.Longer.{drop-longer}
use Rattle.receiver_wait.specs.Wait.{CutIn}

-- ---- parsers

-- So many values are to come, and of these some are read.
awaits-through : {A B : Type 0} {q : Parser B} {p : Parser A} {bs mid rest : Bits} (n : ℕ) {m : ℕ}
    → Awaits q p bs mid n → Awaits q (times n q) mid rest m → Awaits q p bs rest m
unfolding ◌>>=◌
awaits-through {q = q} {rest = rest} n {m} h g =
    record {
      onward = λ xs. g.onward xs >>= h.onward;
      comes = λ more.
          h.comes more ∙ ap (λ r. and_then r h.onward) (g.comes more)
          ∙ then-then (times m q (rest ++ more)) g.onward h.onward;
    }

-- ---- a look

pub awaiting-looked : {s : Settings} {stream text work : List ℕ} {st : State} {n number : ℕ} {r : Wait}
    → Ends s stream text work st n → st.core.at ≤ 8 * length stream → r.at ≤ 8 * length stream
    → CutIn s stream work number st.core r → Awaiting s stream text work st n r.at r.left
awaiting-looked {text = text} {st = st} h place inside g =
    record {
      going = h.going;
      few = h.few;
      begun = h.begun;
      place = place;
      inside = inside;
      next = λ w a b d. g.cut text w (opened_in st) a b (h.next w a b d);
    }

-- ---- more octets

pub awaiting-longer : (os more : List ℕ) {s : Settings} {text work : List ℕ} {st : State} {n at left : ℕ}
    → Awaiting s os text work st n at left → Awaiting s (os ++ more) text work st n at left
awaiting-longer os more {st = st} {at = at} h =
    record {
      going = h.going;
      few = h.few;
      begun = h.begun;
      place = omega (arith, h.place, length-append os more);
      inside = omega (arith, h.inside, length-append os more);
      next = λ w a b d.
          rw (drop-longer os more st.core.at h.place, drop-longer os more at h.inside)
          (awaits-more (unpack more) (h.next w a b d));
    }

-- ---- code points

module _ {s : Settings} {stream text work : List ℕ} {st : State} {n at left number next m : ℕ}
    (h : Awaiting s stream text work st n at left) (c : Cut stream at left number next m) where
  pub awaiting-on : Awaiting s stream text work st n next m
  unfolding read_character
  awaiting-on =
      record {
        going = h.going;
        few = h.few;
        begun = h.begun;
        place = h.place;
        inside = c.waits.inside;
        next = λ w a b d. awaits-through left (h.next w a b d) c.waits.comes;
      }

  -- The next one is refused, and so is the event.
  pub awaiting-refused : InContext text work st n
      (λ x. Declined (step sizes s x) stream st.core.at number)
  unfolding read_character
  awaiting-refused w a b d =
      let e : m ≡ suc (m - 1) = omega (arith, c.some) in
      record {
        refusal = c.stops.refusal;
        result = awaits-refused c.stops.result (rw e at (awaiting-on.next w a b d));
        is = c.stops.is;
      }

-- The fields are read exactly: each parser gives a number and the rest just where the number's bits
-- stand before the rest.
use mathlib.Core.Path.{◌≡◌, refl, sym, ◌∙◌, ap, subst}
use mathlib.Core.List.{List, [], ◌∷◌, ◌++◌, append-nil}
use mathlib.Core.Bool.{Bool, true, false, cond, ◌&&◌}
use mathlib.Core.Option.{some, none-ne-some}
use mathlib.Core.Logic.{⊎_elim}
use Prim.Native.Nat.{ℕ, zero, suc, ◌+◌, ◌*◌, ◌-◌, ◌/◌, ◌%◌, ◌^◌, ◌≤◌, ◌<◌, zero-le, suc-le-suc}
use native.Mathlib.Nat.{pow-suc, add-zero, zero-add, add-suc, suc-add, lt_of_lt_of_le}
use native.Mathlib.Nat.{eq-or-lt_of_le, mod-lt, zero-mul, one-mul, div-lt_iff_lt-mul}
use native.Mathlib.Nat.{mul_comm}
use native.Mathlib.Omega.{arith}
use lib.ListN.{length, get_elem?}
use lib.Dec.{T, leb, ltb, eqb, ltb→lt, nltb→le, leb→le, le→leb}
use lib.Pow.{pow_pos, pow-add, pow_mono, high, low, split as recomposed}
use borrow.Author.Tests.{leb-true, leb-false, ltb-true, ltb-false, lt-ltb, le-ltb}
use Rattle.spec_fields.specs.Bits.{Bits, bits_of, value_of, each, unpack, octets_for}
use Rattle.spec_fields.specs.Refusal.{Refusal, number}
use Rattle.spec_fields.specs.Parser.{got, return, ◌>>=◌, ◌>>◌, times}
use Rattle.spec_fields.specs.Field.{Alignment, bit_packed, byte_aligned, bit, octet, little_endian}
use Rattle.spec_fields.specs.Field.{little_value, number_bits, number_field, width_from, width}
use Rattle.spec_fields.specs.Field.{choice_bits, choice, max_octets, max_unsigned, groups}
use Rattle.spec_fields.specs.Field.{unsigned_bits, grouped, unsigned}
use Rattle.spec_fields.proofs.Tests.{split, both, left, right}
use Rattle.spec_fields.proofs.Exact.{Reads, Returned, Then, Mapped, reads_as, reads-return}
use Rattle.spec_fields.proofs.Exact.{reads-fail, reads-present, reads-cond, reads_then, reads-map}
use Rattle.spec_fields.proofs.Exact.{reads-guard, reads_times, Every, not-got}

-- ---- bits and the number that they stand for

-- n bits are n bits.
pub length-bits : (n v : ℕ) → length (bits_of n v) ≡ n
unfolding bits_of
length-bits zero v = refl
length-bits (suc n) v = ap suc (length-bits n (v % 2 ^ n))

-- A bit as a number.
bit-value : (b : Bool) → (cond b 1 0 < 2) × (eqb (cond b 1 0 % 2) 1 ≡ b)
bit-value true = (omega arith, refl)
bit-value false = (omega arith, refl)

value-bit : (v : ℕ) → v < 2 → cond (eqb (v % 2) 1) 1 0 ≡ v
value-bit zero h = refl
value-bit (suc zero) h = refl
value-bit (suc (suc v)) h = absurd (omega arith)

-- A number of n bits is below 2 ^ n.
pub value-bound : (bs : Bits) → value_of bs < 2 ^ length bs
unfolding value_of
value-bound [] = omega arith
value-bound (true ∷ bs) = rw (pow-suc 2 (length bs), one-mul) (omega (arith, value-bound bs))
value-bound (false ∷ bs) = rw (pow-suc 2 (length bs), zero-mul) (omega (arith, value-bound bs))

-- The bits of a number are its value.
pub value-of-bits : (n v : ℕ) → v < 2 ^ n → value_of (bits_of n v) ≡ v
unfolding value_of bits_of
value-of-bits zero v h = omega arith
value-of-bits (suc n) v h =
    let below : v / 2 ^ n < 2 = (div-lt_iff_lt-mul (pow_pos n)).1 (rw (mul_comm 2 (2 ^ n), ← pow-suc 2 n) h) in
    rw (length-bits n (v % 2 ^ n), value-bit (v / 2 ^ n) below, value-of-bits n (v % 2 ^ n) (mod-lt v (pow_pos n)))
    (recomposed v n)

-- The value of bits has these bits.
pub bits_of_value : (bs : Bits) → bits_of (length bs) (value_of bs) ≡ bs
unfolding value_of bits_of
bits_of_value [] = refl
bits_of_value (b ∷ bs) =
    let h = value-bound bs in
    rw (high (cond b 1 0) (length bs) h, low (cond b 1 0) (length bs) h, bits_of_value bs, (bit-value b).1)

-- ---- bits, octets and n-bit numbers

bit-reads : Reads bit (λ b w. Unit {0} × (w ≡ b ∷ []))
unfolding bit
bit-reads = record { sound = there; complete = λ b w rest e. ap (λ v. bit (v ++ rest)) e.1 }
  where
    there : (bs : Bits) (b : Bool) (rest : Bits) → bit bs ≡ got b rest
        → (w : Bits) × (Unit {0} × (w ≡ b ∷ [])) × (bs ≡ w ++ rest)
    there [] b rest e = not-got e
    there (a ∷ bs) b rest e = (b ∷ [], (tt, refl), cc)

each-bit : (bs : Bits) → each (λ b. b ∷ []) bs ≡ bs
unfolding each
each-bit [] = refl
each-bit (b ∷ bs) = ap (λ r. b ∷ r) (each-bit bs)

-- A trivial fact of each member.
each-true : (bs : Bits) → Every (λ b. Unit {0}) bs
each-true [] = tt
each-true (b ∷ bs) = (tt, each-true bs)

-- The next n bits as a number.
bits-reads : (n : ℕ) → Reads (times n bit >>= λ bs. return (value_of bs)) (λ v w. (v < 2 ^ n) × (w ≡ bits_of n v))
bits-reads n =
    reads_as (reads-map (reads_times n bit-reads) value_of)
    (λ v w h.
    let bs = h.from in
    let e : w ≡ bs = h.by.2 ∙ each-bit bs in (
      rw h.is (subst (λ k. value_of bs < 2 ^ k) h.by.0 (value-bound bs)),
      e ∙ sym (bits_of_value bs) ∙ ap (λ k. bits_of k (value_of bs)) h.by.0 ∙ ap (bits_of n) (sym h.is),
    ))
    (λ v w h.
    let bs = bits_of n v in
    record {
      from = bs;
      by = (length-bits n v, each-true bs, h.1 ∙ sym (each-bit bs));
      is = sym (value-of-bits n v h.0);
    })

-- A number below 256.
abbrev pub IsOctet : ℕ → Type 0
IsOctet o = o < 256

-- Reading an octet gives exactly its eight bits (EXI 7.1).
pub octet-reads : Reads octet (λ o w. IsOctet o × (w ≡ bits_of 8 o))
unfolding octet
octet-reads = bits-reads 8

-- k octets, least significant first, as a number.
pub length-little : (k v : ℕ) → length (little_endian k v) ≡ k
unfolding little_endian
length-little zero v = refl
length-little (suc k) v = ap suc (length-little k (v / 256))

little-octets : (k v : ℕ) → Every IsOctet (little_endian k v)
unfolding little_endian
little-octets zero v = tt
little-octets (suc k) v = (mod-lt v (omega arith), little-octets k (v / 256))

little-bound : (os : List ℕ) → Every IsOctet os → little_value os < 256 ^ length os
unfolding little_value
little-bound [] h = omega arith
little-bound (o ∷ os) h = rw (pow-suc 256 (length os)) (omega (arith, little-bound os h.1))

little-of-value : (os : List ℕ) → Every IsOctet os → little_endian (length os) (little_value os) ≡ os
unfolding little_value little_endian
little-of-value [] h = refl
little-of-value (o ∷ os) h =
    let low : (o + 256 * little_value os) % 256 ≡ o = omega arith in
    let high : (o + 256 * little_value os) / 256 ≡ little_value os = omega arith in
    rw (low, high, little-of-value os h.1)

value-of-little : (k v : ℕ) → v < 256 ^ k → little_value (little_endian k v) ≡ v
unfolding little_value little_endian
value-of-little zero v h = omega arith
value-of-little (suc k) v h =
    let l : v < 256 ^ k * 256 = rw (← pow-suc 256 k) h in
    rw (value-of-little k (v / 256) (omega arith)) (omega arith)

little-reads : (k : ℕ)
    → Reads (times k octet >>= λ os. return (little_value os)) (λ v w. (v < 256 ^ k) × (w ≡ unpack (little_endian k v)))
unfolding unpack
little-reads k =
    reads_as (reads-map (reads_times k octet-reads) little_value)
    (λ v w h.
    let os = h.from in
    let l = h.by.0 in (
      rw h.is (subst (λ n. little_value os < 256 ^ n) l (little-bound os h.by.1)),
      h.by.2 ∙ ap (each (bits_of 8)) (sym (little-of-value os h.by.1) ∙ ap (λ n. little_endian n (little_value os)) l
          ∙ ap (little_endian k) (sym h.is)),
    ))
    (λ v w h.
    record {
      from = little_endian k v;
      by = (length-little k v, little-octets k v, h.1);
      is = sym (value-of-little k v h.0);
    })

-- The numbers that a field of n bits can hold.
abbrev pub bound : Alignment → ℕ → ℕ
bound bit_packed n = 2 ^ n
bound byte_aligned n = 256 ^ octets_for n

-- Reading a field of n bits gives exactly the numbers that have their bits in it (EXI 7.1.9).
pub number-reads : (a : Alignment) (n : ℕ) → Reads (number_field a n) (λ v w. (v < bound a n) × (w ≡ number_bits a n v))
unfolding number_field number_bits
number-reads bit_packed n = bits-reads n
number-reads byte_aligned n = little-reads (octets_for n)

octets-bits : (k : ℕ) → 256 ^ k ≡ 2 ^ (8 * k)
octets-bits zero = refl
octets-bits (suc k) =
    let e : 8 * suc k ≡ 8 * k + 8 = omega arith in
    rw (pow-suc 256 k, octets-bits k, e, pow-add 2 (8 * k) 8)

-- A number of n bits fits, in either alignment.
pub in-bound : (a : Alignment) (n : ℕ) {v : ℕ} → v < 2 ^ n → v < bound a n
unfolding octets_for
in-bound bit_packed n h = h
in-bound byte_aligned n h = rw (octets-bits ((n + 7) / 8)) (lt_of_lt_of_le h (pow_mono (omega arith)))

-- ---- the width of a choice: the least n with 2 ^ n at least m

from-enough : (k n m : ℕ) → m ≤ 2 ^ (n + k) → m ≤ 2 ^ width_from k n m
unfolding width_from
from-enough zero n m h = rw add-zero at h
from-enough (suc k) n m h =
    split (leb m (2 ^ n)) (λ e. rw e (leb-true m (2 ^ n) e))
    (λ e. rw e (from-enough k (suc n) m (rw (suc-add n k, ← add-suc n k) h)))

from-least : (k n m j : ℕ) → m ≤ 2 ^ j → n ≤ j → width_from k n m ≤ j
unfolding width_from
from-least zero n m j h l = l
from-least (suc k) n m j h l =
    split (leb m (2 ^ n)) (λ e. rw e l) (λ e. rw e (from-least k (suc n) m j h (more e)))
  where
    more : leb m (2 ^ n) ≡ false → n < j
    more e = ⊎_elim (λ i. absurd (omega (arith, leb-false m (2 ^ n) e, subst (λ x. m ≤ 2 ^ x) (sym i) h))) (λ i. i)
        (eq-or-lt_of_le l)

below_power : (m : ℕ) → m ≤ 2 ^ m
below_power zero = omega arith
below_power (suc m) = rw (pow-suc 2 m) (omega (arith, below_power m, pow_pos m))

-- The width of a choice among m is enough for m (EXI 6.2; scope, "Fields"), for every m.
pub width-enough : (m : ℕ) → m ≤ 2 ^ width m
unfolding width
width-enough m = from-enough m 0 m (rw zero-add (below_power m))

-- No smaller width is enough (scope, "Fields": the smallest).
pub width-least : (m n : ℕ) → m ≤ 2 ^ n → width m ≤ n
unfolding width
width-least m n h = from-least m 0 m n h zero-le

-- ---- a choice among the members of a list

-- What names a member is below the length.
pub member_below : {A : Type 0} (l : List A) (i : ℕ) {x : A} → get_elem? l i ≡ some x → i < length l
member_below [] i e = absurd (none-ne-some _ e)
member_below (a ∷ l) zero e = omega arith
member_below (a ∷ l) (suc i) e = suc-le-suc (member_below l i e)

-- The number and the member that it names.
pub record Chosen {A : Type 0} (a : Alignment) (l : List A) (x : ℕ × A) (w : Bits) : Type 0 where
  pub names : get_elem? l x.0 ≡ some x.1
  pub bits : w ≡ choice_bits a (length l) x.0

-- Reading a choice gives exactly the members, by the field of their number (scope, "Fields").
pub choice-reads : {A : Type 0} (a : Alignment) (k : Refusal) (l : List A) → Reads (choice a k l) (Chosen a l)
unfolding choice choice_bits
choice-reads a k l =
    reads_as (reads_then (number-reads a (width (length l)))
    (λ v u h. reads-map (reads-present k (get_elem? l v)) (λ x. (v, x))))
    (λ x w h.
    record {
      names = rw h.two.is h.two.by.0;
      bits =
          h.joined ∙ ap (λ v. h.front ++ v) h.two.by.1 ∙ append-nil h.front ∙ h.one.1
          ∙ ap (λ y. number_bits a (width (length l)) y.0) (sym h.two.is);
    })
    (λ x w h.
    record {
      first = x.0;
      front = w;
      back = [];
      one = (
        in-bound a (width (length l)) (lt_of_lt_of_le (member_below l x.0 h.names)
            (width-enough (length l))),
        h.bits,
      );
      two = record { from = x.1; by = (h.names, refl); is = refl };
      joined = sym (append-nil w);
    })

-- ---- Unsigned Integer

-- In up to k octets: 7 bits an octet, least significant group first, the top bit set on all but the
-- last; and whether they are the fewest.
pub data Groups : ℕ → ℕ → Bool → List ℕ → Type 0 where
  last : {k v : ℕ} → v < 128 → Groups (suc k) v true (v ∷ [])
  more : {k v h : ℕ} {fewest : Bool} {os : List ℕ} → v < 128 → Groups k h fewest os
      → Groups (suc k) (v + 128 * h) (fewest && ltb 0 h) ((v + 128) ∷ os)

record Grouped (k : ℕ) (x : ℕ × Bool) (w : Bits) : Type 0 where
  octets : List ℕ
  groups : Groups k x.0 x.1 octets
  bits : w ≡ unpack octets

no-groups : {v : ℕ} {b : Bool} {os : List ℕ} → Groups zero v b os → ⊥
no-groups g = positive g refl
  where
    positive : {k v : ℕ} {b : Bool} {os : List ℕ} → Groups k v b os → k ≡ 0 → ⊥
    positive (last l) e = omega arith
    positive (more l g) e = omega arith

-- What follows the octet o: nothing, or the higher groups.
data Tail (k o : ℕ) : ℕ × Bool → Bits → Type 0 where
  lone : o < 128 → Tail k o (o, true) []
  higher : {h : ℕ} {b : Bool} {w : Bits} → 128 ≤ o → Grouped k (h, b) w
      → Tail k o ((o - 128) + 128 * h, b && ltb 0 h) w

tail-reads : (k o : ℕ) → Reads (grouped k) (Grouped k)
    → Reads
    (cond (ltb o 128) (return (o, true))
    (grouped k >>= λ x. return ((o - 128) + 128 * x.0, x.1 && ltb 0 x.0)))
    (Tail k o)
tail-reads k o h =
    reads-cond (ltb o 128)
    (λ t. reads_as (reads-return (o, true)) (λ x w r. rw (r.is, r.empty) (lone (ltb→lt o 128 t)))
    (λ x w r. one (ltb→lt o 128 t) x w r))
    (λ t. reads_as (reads-map h onward) (λ x w m. rw m.is (higher (nltb→le o 128 t) m.by))
    (λ x w r. many (nltb→le o 128 t) x w r))
  where
    onward : ℕ × Bool → ℕ × Bool
    onward x = ((o - 128) + 128 * x.0, x.1 && ltb 0 x.0)

    one : o < 128 → (x : ℕ × Bool) (w : Bits) → Tail k o x w → Returned (o, true) x w
    one l x w (lone m) = record { is = refl; empty = refl }
    one l x w (higher m r) = absurd (omega arith)

    many : 128 ≤ o → (x : ℕ × Bool) (w : Bits) → Tail k o x w → Mapped (Grouped k) onward x w
    many l x w (lone m) = absurd (omega arith)
    many l x w (higher m r) = record { from = _; by = r; is = refl }

grouped-reads : (k : ℕ) → Reads (grouped k) (Grouped k)
unfolding grouped unpack each
grouped-reads zero = reads_as (reads-fail number) (λ x w h. absurd h) (λ x w h. no-groups h.groups)
grouped-reads (suc k) =
    reads_as (reads_then octet-reads (λ o u h. tail-reads k o (grouped-reads k)))
    (λ x w h. to h.first h.front h.back x w h.one h.two h.joined)
    (λ x w h. from x.0 x.1 w h.octets h.groups h.bits)
  where
    to : (o : ℕ) (u b : Bits) (x : ℕ × Bool) (w : Bits) → IsOctet o × (u ≡ bits_of 8 o) → Tail k o x b
        → w ≡ u ++ b → Grouped (suc k) x w
    to o u b x w h (lone l) j = record { octets = o ∷ []; groups = last l; bits = cc }
    to o u b x w h (higher l r) j =
        let e : (o - 128) + 128 ≡ o = omega arith in
        record {
          octets = ((o - 128) + 128) ∷ r.octets;
          groups = more {v = o - 128} (omega (arith, h.0)) r.groups;
          bits = rw e (let q = r.bits in cc);
        }

    from : (v : ℕ) (b : Bool) (w : Bits) (os : List ℕ) → Groups (suc k) v b os → w ≡ unpack os
        → Then (λ o u. IsOctet o × (u ≡ bits_of 8 o)) (λ o. Tail k o) (v, b) w
    from v b w os (last l) e =
        record { first = v; front = bits_of 8 v; back = []; one = (omega arith, refl); two = lone l; joined = e }
    from v b w os (more {v = low} {h = high} {fewest = short} {os = others} l g) e =
        let s : (low + 128) - 128 ≡ low = omega arith in
        let r : Grouped k (high, short) (unpack others) = record { octets = others; groups = g; bits = refl } in
        record {
          first = low + 128;
          front = bits_of 8 (low + 128);
          back = unpack others;
          one = (omega arith, refl);
          two = subst (λ z. Tail k (low + 128) (z + 128 * high, short && ltb 0 high) (unpack others)) s
              (higher (omega arith) r);
          joined = e;
        }

-- A number and its bits. That it is in fewest octets is a condition of its own.
pub record Unsigned (v : ℕ) (w : Bits) : Type 0 where
  pub fewest : Bool
  pub octets : List ℕ
  pub groups : Groups max_octets v fewest octets
  pub allowed : T fewest
  pub small : v ≤ max_unsigned
  pub bits : w ≡ unpack octets

-- Reading an Unsigned Integer gives exactly its octets (EXI 7.1.6).
pub unsigned_reads : Reads unsigned Unsigned
unfolding unsigned
unsigned_reads =
    reads_as
    (reads_then (grouped-reads max_octets) (λ x u h.
    reads-guard (leb x.0 max_unsigned && x.1) number (λ t. reads-return x.0)))
    (λ v w h.
    let t = h.two.0 in
    let r = h.two.1 in
    let i : w ≡ h.front = h.joined ∙ ap (λ b. h.front ++ b) r.empty ∙ append-nil h.front in
    rw (r.is, i)
    (record {
      fewest = h.first.1;
      octets = h.one.octets;
      groups = h.one.groups;
      allowed = right (leb h.first.0 max_unsigned) h.first.1 t;
      small = leb→le h.first.0 max_unsigned (left (leb h.first.0 max_unsigned) h.first.1 t);
      bits = h.one.bits;
    }))
    (λ v w h.
    record {
      first = (v, h.fewest);
      front = w;
      back = [];
      one = record { octets = h.octets; groups = h.groups; bits = h.bits };
      two = (
        both (leb v max_unsigned) h.fewest (le→leb v max_unsigned h.small) h.allowed,
        record { is = refl; empty = refl },
      );
      joined = sym (append-nil w);
    })

-- The fewest octets are those of the strict form.
fewest-are : {k v : ℕ} {b : Bool} {os : List ℕ} → Groups k v b os → T b → os ≡ groups k v
unfolding groups
fewest-are {v} (last l) t = rw (lt-ltb v 128 l)
fewest-are {v} {b} (more {k = k} {v = low} {h = high} {fewest = fewest} {os = os} l g) t =
    let p = ltb→lt 0 high (right fewest (ltb 0 high) t) in
    let rest : v / 128 ≡ high = omega arith in
    let first : v % 128 ≡ low = omega arith in
    let i = fewest-are g (left fewest (ltb 0 high) t) in
    rw (le-ltb v 128 (omega arith), rest, first, i)

are-fewest : (k v : ℕ) → v < 128 ^ suc k → Groups (suc k) v true (groups (suc k) v)
unfolding groups
are-fewest zero v l = let h : v < 128 = omega arith in rw (lt-ltb v 128 h) (last h)
are-fewest (suc k) v l =
    split (ltb v 128) (λ e. rw e (last (ltb-true v 128 e))) (λ e.
    let b : v < 128 ^ suc k * 128 = rw (← pow-suc 128 (suc k)) l in
    let h = ltb-false v 128 e in
    let whole : v % 128 + 128 * (v / 128) ≡ v = omega arith in
    let fewest : ltb 0 (v / 128) ≡ true = lt-ltb 0 (v / 128) (omega arith) in
    let g = more {v = v % 128} (omega arith) (are-fewest k (v / 128) (omega arith)) in
    rw e (subst (λ x. Groups (suc (suc k)) x true ((v % 128 + 128) ∷ groups (suc k) (v / 128))) whole (rw fewest at g)))

-- An Unsigned Integer in fewest octets has one form (scope, "Refusal numbers", 7).
pub unsigned-bits : {v : ℕ} {w : Bits} → Unsigned v w → w ≡ unsigned_bits v
unfolding unsigned_bits
unsigned-bits h = h.bits ∙ ap unpack (fewest-are h.groups h.allowed)

-- That form is one in fewest octets.
pub bits-unsigned : (v : ℕ) → v ≤ max_unsigned → Unsigned v (unsigned_bits v)
unfolding unsigned_bits max_octets max_unsigned
bits-unsigned v l =
    record {
      fewest = true;
      octets = groups 5 v;
      groups = are-fewest 4 v (omega arith);
      allowed = tt;
      small = l;
      bits = refl;
    }

-- Every parser of the format decides by what it has read (`Steady`): octets that follow change no
-- event that was read, and no refusal but ENDED.
use mathlib.Core.Bool.{Bool}
use mathlib.Core.List.{List, [], ◌∷◌}
use mathlib.Core.Option.{Option, none, some}
use Prim.Native.Nat.{ℕ}
use Rattle.spec_fields.specs.Parser.{Parser, ◌>>=◌, ◌>>◌}
use Rattle.spec_fields.specs.Field.{Alignment}
use Rattle.spec_fields.proofs.Steady.{Steady, steady-return, steady-fail, steady_then}
use Rattle.spec_fields.proofs.Steady.{steady-present, steady-guard, steady-times, steady-octet}
use Rattle.spec_fields.proofs.Steady.{steady-choice, steady-unsigned}
use Rattle.spec_exi.specs.Event.{QName, Kind, SD, ED, SE, AT, EE, CH, CM, PI}
use Rattle.spec_exi.specs.Settings.{Settings}
use Rattle.spec_exi.specs.Sizes.{Sizes}
use Rattle.spec_exi.specs.Tables.{Placed, Slot, Tables, Role, Partitions, compact, literals}
use Rattle.spec_exi.specs.Grammar.{Production, Code, State}
use Rattle.spec_exi.specs.Context.{Context}
use Rattle.spec_exi.specs.Reader.{read_character, read_literal, read_hit, read_in, read_by_literals}
use Rattle.spec_exi.specs.Reader.{read_entry, read_form, read_string, readName, readContent}
use Rattle.spec_exi.specs.Reader.{read_part, read_code, step, read_header}

module _ (z : Sizes) (s : Settings) where
  steady-character : Steady (read_character s)
  unfolding read_character
  steady-character = steady_then steady-unsigned (λ p. steady-guard _ _ (steady-return p))

  steady-literal : (t : Tables) (n : ℕ) → Steady (read_literal z s t n)
  unfolding read_literal
  steady-literal t n =
      steady-guard _ _ (steady-guard _ _ (steady_then (steady-times n steady-character) (λ x. steady-return _)))

  steady-in : (t : Tables) (k v : ℕ) (o : Option (List Slot)) → Steady (read_in z s t k v o)
  unfolding read_in read_hit
  steady-in t k v none = steady-literal t _
  steady-in t k v (some es) =
      steady_then (steady-choice _ _ es) (λ x. steady_then (steady-present _ x.1) (λ e. steady-return _))

  steady-by-literals : (t : Tables) (ess : List (List Slot)) → Steady (read_by_literals z s t ess)
  unfolding read_by_literals
  steady-by-literals t ess = steady_then steady-unsigned (λ v. steady-in t _ v _)

  steady-entry : (t : Tables) (v : ℕ) (o : Option Slot) → Steady (read_entry z s t v o)
  unfolding read_entry
  steady-entry t v none = steady-by-literals t []
  steady-entry t v (some slot) = steady_then (steady-present _ slot) (λ e. steady-return _)

  steady-form : (t : Tables) (p : Partitions) → Steady (read_form z s t p)
  unfolding read_form
  steady-form t (compact es) = steady_then (steady-choice _ _ _) (λ v. steady-entry t _ _)
  steady-form t (literals ess) = steady-by-literals t ess

  -- A string.
  pub steady-string : (t : Tables) (r : Role) → Steady (read_string z s t r)
  unfolding read_string
  steady-string t r =
      steady_then (steady-form t _) (λ v.
      steady-guard _ _ (steady-guard _ _ (steady-guard _ _ (steady-guard _ _ (steady-return _)))))

  -- A name.
  pub steady-name : (t : Tables) (attr : Bool) (n : Option (QName Placed)) → Steady (readName z s t attr n)
  unfolding readName
  steady-name t attr none = steady_then (steady-string t _)
      (λ u. steady_then (steady-string _ _) (λ n. steady-return _))
  steady-name t attr (some q) = steady-return _

  steady-content : (t : Tables) (st : State) (k : Kind) (n : Option (QName Placed)) → Steady (readContent z s t st k n)
  unfolding readContent
  steady-content t st SD n = steady-return _
  steady-content t st ED n = steady-return _
  steady-content t st EE n = steady-return _
  steady-content t st SE n = steady_then (steady-name t _ n) (λ q. steady-return _)
  steady-content t st AT n = steady_then (steady-name t _ n)
      (λ q. steady_then (steady-string _ _) (λ v. steady-return _))
  steady-content t st CH n = steady_then (steady-string t _) (λ v. steady-return _)
  steady-content t st CM n = steady_then (steady-string t _) (λ v. steady-return _)
  steady-content t st PI n = steady_then (steady-string t _)
      (λ x. steady_then (steady-string _ _) (λ y. steady-return _))

steady-part : (v : ℕ) (o : Option Production) {p : Parser Code} → Steady p → Steady (read_part v o p)
unfolding read_part
steady-part v (some x) h = steady-return _
steady-part v none h = steady_then h (λ x. steady-return _)

-- An event code.
pub steady-code : (a : Alignment) (ls : List (List Production)) → Steady (read_code a ls)
unfolding read_code
steady-code a [] = steady-fail _
steady-code a (l ∷ ls) = steady_then (steady-choice a _ _) (λ v. steady-part _ _ (steady-code a ls))

-- An event.
pub steady-step : (z : Sizes) (s : Settings) (c : Context) → Steady (step z s c)
unfolding step
steady-step z s c =
    steady_then (steady-code _ _) (λ x. steady_then (steady-content z s _ _ _ _)
    (λ e. steady-guard _ _ (steady-guard _ _ (steady-guard _ _ (steady-return _)))))

-- The header.
pub steady-header : (hs : List ℕ) → Steady (read_header hs)
unfolding read_header
steady-header [] = steady-return _
steady-header (h ∷ hs) = steady_then steady-octet (λ o. steady-guard _ _ (steady-header hs))

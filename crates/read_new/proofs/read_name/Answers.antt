use mathlib.Core.Path.{refl}
use Rattle.read_field.proofs.View.{refusal-some}
use Rattle.read_partition.proofs.Fields.{passed-on}
use Rattle.read_qname.proofs.Returns.{uri-asks, name-asks, pair-first, pair-second, pair_read}
use Rattle.read_new.proofs.read_name.Goals as goal

pub read_uri-requires : goal.read_uri-requires
read_uri-requires c = uri-asks c.requires

pub returns-in_err-u : goal.returns-in_err-u
returns-in_err-u c =
    rw (passed-on c.from_residual.ensures.1)
    (pair-first c.requires c.in_err-u.ensures.uri_post c.in_err-u.ensures.uri_rowed _
    (refusal-some _))

pub read_local-requires : goal.read_local-requires
read_local-requires c =
    name-asks c.requires c.in_ok-u.ensures.uri_post c.in_ok-u.ensures.uri_rowed refl

pub returns-in_err-l : goal.returns-in_err-l
returns-in_err-l c =
    rw (passed-on c.from_residual-in_err-l.ensures.1)
    (pair-second c.requires c.in_ok-u.ensures.uri_post c.in_ok-u.ensures.uri_rowed refl _
    c.in_err-l.ensures.name_post c.in_err-l.ensures.name_rowed (refusal-some _))

pub returns : goal.returns
returns c =
    pair_read c.requires c.in_ok-u.ensures.uri_post c.in_ok-u.ensures.uri_rowed refl _
    c.in_ok-l.ensures.name_post c.in_ok-l.ensures.name_rowed refl

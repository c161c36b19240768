-- All worked examples, by topic.
use Rattle.text.specs.Examples.{NameExamples}
use Rattle.spec_fields.specs.Examples.{FieldExamples}
use Rattle.spec_exi.specs.Examples
use Examples.{Hold, Replied, Scope.K, Scope.KReplies, Streams.mistakes, Streams.kept, Places.Lie}
use Examples.{Places.laid_out, Refusals.orders, Refusals.refusals, Numbers.Pinned}
use Examples.{Bounds.RefusedUnder, Bounds.bounds_in_order, Values.bounded_read, Values.BoundedSizes}
use Examples.{Pieces.Tell, Pieces.pieces}
use Examples.Written.{Written, WriteReplied, writes, write_replies, WrittenUnder, writes_in_order}
use Examples.Attributes.{equal_read, equal_written}
use Examples.Names.{InitialNames, names_read, texts_read, names_written, names_in_order}
use Examples.Fragments.{fragments_read, fragments_written}

-- Each holds.
pub record WorkedExamples : Type 0 where
  pub scope : Hold K
  pub scope-replies : Replied K KReplies
  pub fields : FieldExamples
  pub mistakes-hold : Hold mistakes
  pub kept-hold : Hold kept
  pub places-lie : Lie laid_out
  pub orders-hold : Hold orders
  pub refusals-hold : Hold refusals
  pub pinned : Pinned
  pub in_order : RefusedUnder bounds_in_order
  pub writes-hold : Written writes
  pub writes-replied : WriteReplied writes write_replies
  pub writes-in-order : WrittenUnder writes_in_order
  pub equal-read : Hold equal_read
  pub equal-written : Written equal_written
  pub names : NameExamples
  pub initial-names : InitialNames
  pub names-read : Hold names_read
  pub texts-read : Hold texts_read
  pub names-written : Written names_written
  pub names-in-order : WrittenUnder names_in_order
  pub fragments-read : Hold fragments_read
  pub fragments-written : Written fragments_written
  pub bounded-read : Hold bounded_read
  pub bounded-sizes : BoundedSizes
  pub pieces-told : Tell pieces

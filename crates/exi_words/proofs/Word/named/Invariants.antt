-- The words before the index have other names.
use Rattle.std.proofs.Common.{◌≡◌, drop}
use Rattle.exi_words.specs.Words.{all_words, named, named_among}
use Rattle.exi_words.proofs.Word.named.Given as goal

abbrev pub invariant-loop-word : goal.invariant-loop-word
invariant-loop-word l = named l.name ≡ named_among (drop l.word-index all_words) l.name

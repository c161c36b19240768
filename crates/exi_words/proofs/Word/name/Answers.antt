-- `name` meets its contract: each arm knows the word.
use Rattle.text.specs.Text.{text}
use Rattle.exi_words.proofs.Word.name.Goals as goal

pub returns-in-BitPacked : goal.returns-in-BitPacked
unfolding text
returns-in-BitPacked c = rw c.in-BitPacked.is

pub returns-in-ByteAligned : goal.returns-in-ByteAligned
unfolding text
returns-in-ByteAligned c = rw c.in-ByteAligned.is

pub returns-in-Cookie : goal.returns-in-Cookie
unfolding text
returns-in-Cookie c = rw c.in-Cookie.is

pub returns-in-Comments : goal.returns-in-Comments
unfolding text
returns-in-Comments c = rw c.in-Comments.is

pub returns-in-Instructions : goal.returns-in-Instructions
unfolding text
returns-in-Instructions c = rw c.in-Instructions.is

pub returns-in-Fragment : goal.returns-in-Fragment
unfolding text
returns-in-Fragment c = rw c.in-Fragment.is

pub returns-in-MaxLength : goal.returns-in-MaxLength
unfolding text
returns-in-MaxLength c = rw c.in-MaxLength.is

pub returns-in-Capacity : goal.returns-in-Capacity
unfolding text
returns-in-Capacity c = rw c.in-Capacity.is

pub returns-in-Packets : goal.returns-in-Packets
unfolding text
returns-in-Packets c = rw c.in-Packets.is

pub returns-in-Ms : goal.returns-in-Ms
unfolding text
returns-in-Ms c = rw c.in-Ms.is

pub returns-in-Utf8 : goal.returns-in-Utf8
unfolding text
returns-in-Utf8 c = rw c.in-Utf8.is

pub returns-in-Help : goal.returns-in-Help
unfolding text
returns-in-Help c = rw c.in-Help.is

pub returns-in-H : goal.returns-in-H
unfolding text
returns-in-H c = rw c.in-H.is

pub returns-in-End : goal.returns-in-End
unfolding text
returns-in-End c = rw c.in-End.is

pub returns-in-Show : goal.returns-in-Show
unfolding text
returns-in-Show c = rw c.in-Show.is

pub returns-in-Check : goal.returns-in-Check
unfolding text
returns-in-Check c = rw c.in-Check.is

pub returns-in-Readings : goal.returns-in-Readings
unfolding text
returns-in-Readings c = rw c.in-Readings.is

pub returns-in-WriteReadings : goal.returns-in-WriteReadings
unfolding text
returns-in-WriteReadings c = rw c.in-WriteReadings.is

pub returns-in-HelpWord : goal.returns-in-HelpWord
unfolding text
returns-in-HelpWord c = rw c.in-HelpWord.is

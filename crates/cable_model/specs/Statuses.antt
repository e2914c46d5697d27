-- The code and the text of each status.
use Rattle.std.specs.Prelude.{ℕ, List, [], ◌++◌, codes, decimal}
use Rattle.channel_book.specs.declared.faults.BookFault.{BookFault}
use Rattle.channel_book.specs.declared.faults.BookFault.TheVariants as book_fault
use Rattle.cable_model.specs.declared.statuses.BreakReason.{BreakReason}
use Rattle.cable_model.specs.declared.statuses.BreakReason.TheVariants as reason
use Rattle.cable_model.specs.declared.statuses.Status.{Status}
use Rattle.cable_model.specs.declared.statuses.Status.TheVariants as status

abbrev pub code_of : Status → ℕ
code_of status.Ok = 0
code_of status.Usage = 2
code_of (status.BadScript line why) = 3
code_of (status.BadBook fault) = 4
code_of status.Unended = 5
code_of (status.TooLong line) = 6
code_of status.ReadFault = 7
code_of status.WriteFault = 8
code_of status.OutOfMemory = 9
code_of status.StoreFault = 10
code_of status.NetFault = 11
code_of status.TooMuch = 12

abbrev pub reason_text : BreakReason → List ℕ
reason_text reason.NoHeader = codes "no-header"
reason_text reason.NoBook = codes "no-book"
reason_text reason.NotUtf8 = codes "not-utf8"
reason_text reason.UnknownVerb = codes "unknown-verb"
reason_text reason.BadWords = codes "bad-words"
reason_text reason.BadNumber = codes "bad-number"
reason_text reason.BadJson = codes "bad-json"
reason_text reason.TooLarge = codes "too-large"

-- of a shape the path stands behind the blank, and the book's own path is empty
abbrev pub book_fault_text : BookFault → List ℕ
book_fault_text book_fault.BadJson = codes "bad-json"
book_fault_text (book_fault.BadShape path) = codes "bad-shape " ++ path
book_fault_text (book_fault.ReservedStream template) = codes "reserved-stream"
book_fault_text (book_fault.RepeatedName name) = codes "repeated-name"
book_fault_text book_fault.OutOfMemory = codes "out-of-memory"

-- what a program prints of a refusal
abbrev pub text_of : Status → List ℕ
text_of status.Ok = []
text_of status.Usage = codes "usage"
text_of (status.BadScript line why) = codes "bad-script line " ++ decimal line ++ codes " " ++ reason_text why
text_of (status.BadBook fault) = codes "bad-book " ++ book_fault_text fault
text_of status.Unended = codes "unended"
text_of (status.TooLong line) = codes "too-long line " ++ decimal line
text_of status.ReadFault = codes "read-fault"
text_of status.WriteFault = codes "write-fault"
text_of status.OutOfMemory = codes "out-of-memory"
text_of status.StoreFault = codes "store-fault"
text_of status.NetFault = codes "net-fault"
text_of status.TooMuch = codes "too-much"

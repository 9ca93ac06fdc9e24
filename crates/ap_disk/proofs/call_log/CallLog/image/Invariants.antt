use Rattle.std.proofs.Common.{◌≡◌, List, length}
use Rattle.ap_disk.specs.History.{Event, file_after, leaves_after}
use Rattle.ap_disk.specs.CallLog.{counts, log_of}
use Rattle.ap_disk.proofs.Moments.{RiseBelow}
use Rattle.ap_disk.proofs.call_log.CallLog.image.Given as goal

-- the calls so far made the file and left the image, and with the rest they are the record
abbrev pub invariant-loop-call : goal.invariant-loop-call
invariant-loop-call l = record {
  older : List Event;
  log : log_of older l.calls l.kept ≡ l.self;
  counted : counts l.calls ≡ length l.kept;
  file : l.file.0 ≡ file_after l.first older;
  image : leaves_after l.first older l.image.0;
  file_room : l.file.1 ≡ l.room;
  image_room : l.image.1 ≡ l.room;
  before : RiseBelow l.moment older;
}

abbrev pub decreases-loop-call : goal.decreases-loop-call
decreases-loop-call l = length l.calls

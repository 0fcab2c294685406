-- How the showing of a file ended, by the end of its reading.
use Rattle.std.specs.Prelude.{Bool, true, false}
use Rattle.file_model.specs.declared.end.FileEnd.{FileEnd}
use Rattle.file_model.specs.declared.end.FileEnd.TheVariants as file
use Rattle.stream_report.specs.declared.file.ShowEnd.{ShowEnd}
use Rattle.stream_report.specs.declared.file.ShowEnd.TheVariants.{Clean, Torn, Bad, ReadFault, SizeLimit, PrintFault, Memory}

abbrev pub show_end : FileEnd → ShowEnd
show_end (file.End at) = Clean
show_end (file.Torn at left) = Torn
show_end (file.Bad at why) = Bad
show_end file.ReadFault = ReadFault
show_end file.SizeLimit = SizeLimit

-- the reading came to an end, and all its lines were said
abbrev pub is_read : ShowEnd → Bool
is_read Clean = true
is_read Torn = true
is_read Bad = true
is_read ReadFault = true
is_read SizeLimit = true
is_read PrintFault = false
is_read Memory = false

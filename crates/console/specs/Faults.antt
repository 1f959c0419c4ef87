-- The faults of the program in words. Of an error of the system nothing is said. Assumes nothing.
use Rattle.std.specs.Prelude.{ℕ, List, ◌++◌, Some, None, string_bytes, codes, decimal, Option}
use Rattle.rig.specs.Texts.{error_text}
use Rattle.showfile.specs.Refusals.{text_of}
use Rattle.wording.specs.Reasons.{reason_text}
use Rattle.console.specs.declared.fault.Fault.{Fault}
use Rattle.console.specs.declared.fault.Fault.TheVariants.{Usage, Part, Memory, Output, File, Setup, Show, Run}

abbrev pub fault_text : Fault → Option (List ℕ)
fault_text Usage = Some (codes "usage: playback [--log OUT] [--solo PART] SETUP SHOW.., or playback SHOW")
fault_text Part = Some (codes "--solo wants a part, 0 to 7")
fault_text Memory = Some (codes "out of memory")
fault_text (Output e) = None
fault_text (File path e) = None
fault_text (Setup path e) = Some (string_bytes path ++ (codes ": " ++ error_text e))
fault_text (Show path why) = Some (string_bytes path ++ (codes ": " ++ text_of why))
fault_text (Run path n) = Some (string_bytes path ++ (codes ": refusal " ++ (decimal n ++ (codes ": " ++ reason_text n))))

-- What the structs of the C interface mean. Assumes nothing.
use Rattle.reference.specs.Rules.{Rules}
use Rattle.reference.specs.Reply as R
use Rattle.puchkewa.specs.declared.export.Settings.{Settings}
use Rattle.puchkewa.specs.declared.export.Report.{Report}

-- the settings of a call
abbrev pub settings_of : Settings → Rules
settings_of s = record { convention = s.convention; settle = s.settle; edition = s.edition; parts = s.parts; profile = s.profile }

-- the reply in numbers
abbrev pub exported : Report → R.Report
exported r =
    record {
      refusal = r.refusal;
      place = r.place;
      length = r.length;
      told =
          record { first = r.attempts_1; second = r.attempts_2; third = r.attempts_3; rounds = r.rounds; attempts = r.attempts };
      removed = r.removed;
      cut = r.cut;
    }

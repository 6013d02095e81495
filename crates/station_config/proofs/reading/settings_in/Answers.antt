use Rattle.std.proofs.Common.{◌≡◌, ◌∙◌, List, ℕ, ap, refl, string_bytes, subst}
use Rattle.toml.specs.View.{table_view}
use Rattle.station_config.specs.Settings.{LogSays, SendingSays, StoreSays, folder_of}
use Rattle.station_config.specs.Station.{path_from, word_of}
use Rattle.station_config.proofs.reading.settings_in.Goals as goal

pub returns : goal.returns
returns c =
    let top = table_view c.args.top.now in
    let folder : string_bytes c.in_ok-folder.folder ≡ folder_of c.args.file.now (table_view c.args.top.now) =
    c.in_ok-folder.ensures ∙ ap (path_from c.args.file.now) (c.word_of.ensures ∙ ap word_of c.value_of.ensures) in
    record {
      station = c.in_ok-station.ensures;
      store = subst (λ (f : List ℕ). StoreSays f top c.store_in.result) folder c.store_in.ensures;
      sending = subst (λ (f : List ℕ). SendingSays c.args.file.now f top c.in_ok-sending.sending) (c.as_str.ensures.value ∙ folder) c.in_ok-sending.ensures;
      control = c.in_ok-control.ensures;
      is_commanded = refl;
      log = subst (λ (f : List ℕ). LogSays c.args.file.now f top c.in_ok-log.log) (c.as_str-2.ensures.value ∙ folder) c.in_ok-log.ensures;
      recorded = c.in_ok-record.ensures;
      remotes = c.in_ok-remotes.ensures;
    }

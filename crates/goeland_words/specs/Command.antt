-- The tables as commands of the parser of command lines.
use Rattle.std.specs.Prelude.{[], ◌∷◌, ◌++◌, map, Some, true}
use Rattle.clap.specs.Words.{App, Rule, new_app, new_rule}
use Rattle.clap.specs.declared.builder.ArgAction.TheVariants.{Set, SetTrue}
use Rattle.goeland_words.specs.Table.{Text, Table, place}

-- an option with a value, one without, and the positional word
abbrev pub value_rule : Text → Rule
value_rule name = record (new_rule name) { long = Some name; action = Some Set }

abbrev pub switch_rule : Text → Rule
switch_rule name = record (new_rule name) { long = Some name; action = Some SetTrue }

abbrev pub place_rule : Rule
place_rule = record (new_rule place) { action = Some Set }

-- a command with no arguments, whose words begin with the first argument
abbrev pub bare_app : Text → App
bare_app name = record {
  top = record (new_app name).top { no_binary_name = true; disable_help_flag = true };
  subs = [];
}

abbrev pub app_of_table : Text → Table → App
app_of_table name t = record {
  top = record (bare_app name).top {
    rules = map value_rule t.values ++ (map switch_rule t.switches ++ place_rule ∷ []);
  };
  subs = [];
}

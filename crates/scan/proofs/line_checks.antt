pub mod LinePassing
mod PlainLaws

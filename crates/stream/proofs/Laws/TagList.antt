pub mod TagsFrom
